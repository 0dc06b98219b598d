-- Outcomes taken apart: of an analysis, a rate and a simulation. The demands are read off these.
--
--   short_or_roomy       an analysis is refused 8, or its verdict decides: by the buffers alone
--   analysis_answered    an analysis that is not refused has an answer, and it is that answer's outcome
--   rate_answered        so has a rate
--   simulation_cases     a simulation is refused, or its buffer holds the times
use Rattle.std.specs.Prelude.{◌≡◌, refl, Bool, true, false, ◌⊎◌, List, ℕ, ◌*◌, ◌≤◌, ◌<◌, ltb, length}
use Rattle.std.proofs.Common.{sym, ap, ◌∙◌, inl, inr, ⊎_elim, arith}
use Rattle.std.proofs.Math.Logic.{by_cases}
use Rattle.std.proofs.Math.Logic.Dec
use Rattle.std.proofs.Math.Decide.{dec_le, dec_lt}
use Rattle.model.specs.Loop.{Live}
use Rattle.model.specs.Ends.{Range}
use Rattle.model.specs.Rate.{Rates}
use Rattle.model.specs.Answer.{Answer, Answers}
use Rattle.theory.specs.Knot.{knot_or_live}
use Rattle.table.specs.declared.Table.{Table}
use Rattle.table.specs.Limits.{min_occurrences, max_occurrences}
use Rattle.table.specs.Fields.{Within, within_or_first_bad}
use Rattle.table.specs.Meaning.{shape_of, ranges_of, within_fits}
use Rattle.rates.specs.Rate.{Rated}
use Rattle.refusals.specs.Number.{Told}
use Rattle.engine.specs.Verdict.{Verdict, outside, knotted, flat, wide, found, Judges}
use Rattle.period.specs.Promise.{pick, Outcome, outcome, refused_analysis, answered_analysis, into, judged_outcome, is_outside, outcome_of, AnalysisOf}
use Rattle.rates.specs.Rate.{RateVerdict, bad_field, no_name, knot_at, unreached, too_wide, rated, JudgesRate, answered_rate, rated_of, RateOf}
use Rattle.simulation.specs.Simulation.{Span, NoBlank, Refused, Answered, SimulationOf, no_or_first_blank}
use Rattle.demands.specs.Exists.{Buffers}

-- ----------------------------------------------------------------------------------------------------------------------------------- an analysis

-- three tests, each of which picks x
three : (c d e : Bool) (x : Outcome) → ((y : Outcome) → pick c x (pick d x (pick e x y)) ≡ x) ⊎ ((y : Outcome) → pick c x (pick d x (pick e x y)) ≡ y)
three true d e x = inl (λ y. refl)
three false true e x = inl (λ y. refl)
three false false true x = inl (λ y. refl)
three false false false x = inr (λ y. refl)

-- the buffers alone decide whether there is room
pub short_or_roomy : (n : ℕ) (b : Buffers) → ((v : Verdict) → is_outside v ≡ false → outcome_of n v b.schedule b.low b.high ≡ outcome (refused_analysis 8 n) b.schedule b.low b.high) ⊎ ((v : Verdict) → outcome_of n v b.schedule b.low b.high ≡ judged_outcome v b.schedule b.low b.high)
short_or_roomy n b =
    ⊎_elim (λ s. inl (λ v e. rw e (s (judged_outcome v b.schedule b.low b.high)))) (λ s. inr (roomy s))
    (three (ltb (length b.schedule) n) (ltb (length b.low) n) (ltb (length b.high) n) (outcome (refused_analysis 8 n) b.schedule b.low b.high))
  where
    roomy : ((y : Outcome) → pick (ltb (length b.schedule) n) (outcome (refused_analysis 8 n) b.schedule b.low b.high) (pick (ltb (length b.low) n) (outcome (refused_analysis 8 n) b.schedule b.low b.high) (pick (ltb (length b.high) n) (outcome (refused_analysis 8 n) b.schedule b.low b.high) y)) ≡ y)
        → (v : Verdict) → outcome_of n v b.schedule b.low b.high ≡ judged_outcome v b.schedule b.low b.high
    roomy s (outside k) = refl
    roomy s (knotted u) = s (judged_outcome (knotted u) b.schedule b.low b.high)
    roomy s flat = s (judged_outcome flat b.schedule b.low b.high)
    roomy s wide = s (judged_outcome wide b.schedule b.low b.high)
    roomy s (found a) = s (judged_outcome (found a) b.schedule b.low b.high)

-- what stands behind an analysis that is not refused
pub record AnsweredBy (t : Table) (b : Buffers) (o : Outcome) : Type 0 where
  pub answer : Answer
  pub within : Within t
  pub live : Live (shape_of t)
  pub answers : Answers (shape_of t) (ranges_of t) t.n answer
  pub result : o ≡ outcome (answered_analysis answer) (into answer.schedule b.schedule) (into answer.low_loop b.low) (into answer.high_loop b.high)

pub analysis_answered : (t : Table) (b : Buffers) (o : Outcome) → AnalysisOf t b.schedule b.low b.high o → o.result.refusal ≡ 0 → AnsweredBy t b o
analysis_answered t b o is none = ⊎_elim (λ s. absurd (short s is.verdict is.result)) (λ s. roomy is.verdict is.judged (is.result ∙ s is.verdict)) (short_or_roomy t.n b)
  where
    number : {x : Outcome} → o ≡ x → x.result.refusal ≡ 0
    number e = sym (ap (λ (z : Outcome). z.result.refusal) e) ∙ none

    short : ((v : Verdict) → is_outside v ≡ false → outcome_of t.n v b.schedule b.low b.high ≡ outcome (refused_analysis 8 t.n) b.schedule b.low b.high) → (v : Verdict) → o ≡ outcome_of t.n v b.schedule b.low b.high → ⊥
    short s (outside k) e = let z = number e in omega arith
    short s (knotted u) e = let z = number (e ∙ s (knotted u) refl) in omega arith
    short s flat e = let z = number (e ∙ s flat refl) in omega arith
    short s wide e = let z = number (e ∙ s wide refl) in omega arith
    short s (found a) e = let z = number (e ∙ s (found a) refl) in omega arith

    roomy : (v : Verdict) → Judges t v → o ≡ judged_outcome v b.schedule b.low b.high → AnsweredBy t b o
    roomy (outside k) j e = let z = number e in absurd (omega arith)
    roomy (knotted u) j e = let z = number e in absurd (omega arith)
    roomy flat j e = let z = number e in absurd (omega arith)
    roomy wide j e = let z = number e in absurd (omega arith)
    roomy (found a) j e = record { answer = a; within = j.0; live = j.1; answers = j.2; result = e }

-- ---------------------------------------------------------------------------------------------------------------------------------------- a rate

pub record RatedBy (t : Table) (v : ℕ) (r : Rated) : Type 0 where
  pub range : Range
  pub within : Within t
  pub named : v < t.n
  pub live : Live (shape_of t)
  pub rates : Rates (shape_of t) (ranges_of t) v range
  pub result : r ≡ answered_rate range

pub rate_answered : (t : Table) (v : ℕ) (r : Rated) → RateOf t v r → r.refusal ≡ 0 → RatedBy t v r
rate_answered t v r is none = at is.verdict is.judged is.result
  where
    number : {x : Rated} → r ≡ x → x.refusal ≡ 0
    number e = sym (ap (λ (z : Rated). z.refusal) e) ∙ none

    at : (x : RateVerdict) → JudgesRate t v x → r ≡ rated_of t.n x → RatedBy t v r
    at (bad_field k) j e = let z = number e in absurd (omega arith)
    at no_name j e = let z = number e in absurd (omega arith)
    at (knot_at u) j e = let z = number e in absurd (omega arith)
    at unreached j e = let z = number e in absurd (omega arith)
    at too_wide j e = let z = number e in absurd (omega arith)
    at (rated a) j e = record { range = a; within = j.0; named = j.1; live = j.2; rates = j.3; result = e }

-- ---------------------------------------------------------------------------------------------------------------------------------- a simulation

-- refused, or the times of a table within its limits whose loops all turn
abbrev pub Case : Table → ℕ → List ℕ → Told → List ℕ → Type 0
Case t N out₀ r out = ((f : ℕ) × (p : ℕ) × (0 < f) × Refused f p out₀ r out) ⊎ (Within t × Live (shape_of t) × Answered t N out₀ r out)

pub simulation_cases : (t : Table) (N : ℕ) (out₀ : List ℕ) (r : Told) (out : List ℕ) → SimulationOf t N out₀ r out → Case t N out₀ r out
simulation_cases t N out₀ r out x = ⊎_elim within (λ k. inl (3, k.0, omega arith, x.outside k.0 k.1)) (within_or_first_bad t)
  where
    roomy : Within t → Span N → NoBlank t → Case t N out₀ r out
    roomy w n none =
        by_cases (dec_lt (length out₀) (t.n * N))
        (λ l. inl (8, t.n * N, omega arith, x.room w n none l))
        (λ l.
        let room : t.n * N ≤ length out₀ = omega arith in
        ⊎_elim
        (λ k. inl (5, k.0, omega arith, x.loop w n none room k.0 k.1))
        (λ live. inr (w, live, x.simulated w n none room live))
        (knot_or_live (shape_of t) t.n (within_fits t w)))

    within : Within t → Case t N out₀ r out
    within w =
        by_cases (Dec.and (dec_le min_occurrences N) (dec_le N max_occurrences))
        (λ n. ⊎_elim (roomy w n) (λ q. inl (7, q.0, omega arith, x.unknown w n q.0 q.1)) (no_or_first_blank t))
        (λ d. inl (9, 0, omega arith, x.span w d))
