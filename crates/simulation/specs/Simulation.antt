-- The timing simulation of a table, as `simulate` is promised to make it.
--
--   delays t r        the delay of rule r, where no delay is unknown
--   Span N            as many occurrences may be simulated
--   NoBlank t         no rule of t has an unknown delay
--   FirstBlank t r    r is the lowest rule of t that has one
--   SimulationOf t N out₀ r out
--                     THE PROMISE of `simulate`: r is told and the buffer out₀ becomes out
--
-- Theorem: simulation_unique (a single outcome).
use Rattle.std.specs.Prelude.{◌≡◌, refl, ◌⊎◌, List, ℕ, ◌*◌, ◌≤◌, ◌<◌, length, get_or}
use Rattle.std.proofs.Common.{sym, ap, ◌∙◌, inl, inr, ⊎_elim, arith}
use Rattle.std.proofs.Math.Logic.{by_cases}
use Rattle.std.proofs.Math.Logic.Dec
use Rattle.std.proofs.Math.Decide.{dec_le, dec_lt}
use Rattle.model.specs.Loop.{Live}
use Rattle.model.specs.Knot.{Knot}
use Rattle.model.specs.Times.{Timed}
use Rattle.theory.specs.Search.{none_or_first}
use Rattle.theory.specs.Knot.{knot_or_live}
use Rattle.theory.specs.Times.{timed_unique}
use Rattle.refusals.specs.Number.{Told}
use Rattle.table.specs.declared.Delay.{Delay}
use Rattle.table.specs.declared.Delay.TheVariants.{Known, Unknown}
use Rattle.table.specs.declared.Table.{Table}
use Rattle.table.specs.Limits.{min_occurrences, max_occurrences}
use Rattle.table.specs.Form.{unused_rule}
use Rattle.table.specs.Fields.{Within, FirstBad, within_or_first_bad}
use Rattle.table.specs.Meaning.{used, shape_of, ranges_of, Blank, within_fits}

-- a known delay is the least that it may be
abbrev pub delays : Table → ℕ → ℕ
delays t = (ranges_of t).least

abbrev pub Span : ℕ → Type 0
Span N = (min_occurrences ≤ N) × (N ≤ max_occurrences)

abbrev pub NoBlank : Table → Type 0
NoBlank t = (r : ℕ) → ¬ (Blank t r)

pub record FirstBlank (t : Table) (r : ℕ) : Type 0 where
  pub blank : Blank t r
  pub before : (q : ℕ) → q < r → ¬ (Blank t q)

-- refused with number f at place p, and the buffer as it was
pub record Refused (f p : ℕ) (out₀ : List ℕ) (r : Told) (out : List ℕ) : Type 0 where
  pub number : r.refusal ≡ f
  pub place : r.place ≡ p
  pub kept : out ≡ out₀

-- the times, row by row, with 0 and 0
pub record Answered (t : Table) (N : ℕ) (out₀ : List ℕ) (r : Told) (out : List ℕ) : Type 0 where
  pub number : r.refusal ≡ 0
  pub place : r.place ≡ 0
  pub times : Timed (shape_of t) (delays t) N t.n out₀ out

-- one clause for each case, in the order in which they are tried: 3, 9, 7, 8, 5
pub record SimulationOf (t : Table) (N : ℕ) (out₀ : List ℕ) (r : Told) (out : List ℕ) : Type 0 where
  pub outside : (k : ℕ) → FirstBad t k → Refused 3 k out₀ r out
  pub span : Within t → ¬ (Span N) → Refused 9 0 out₀ r out
  pub unknown : Within t → Span N → (q : ℕ) → FirstBlank t q → Refused 7 q out₀ r out
  pub room : Within t → Span N → NoBlank t → length out₀ < t.n * N → Refused 8 (t.n * N) out₀ r out
  pub loop : Within t → Span N → NoBlank t → t.n * N ≤ length out₀ → (u : ℕ) → Knot (shape_of t) u → Refused 5 u out₀ r out
  pub simulated : Within t → Span N → NoBlank t → t.n * N ≤ length out₀ → Live (shape_of t) → Answered t N out₀ r out

-- A single outcome ------------------------------------------------------------------------------------------------------------------------------

unknown_dec : (d : Delay) → Dec (d ≡ Unknown)
unknown_dec Unknown = yes refl
unknown_dec (Known d) = no (λ e. let z : ◌≡◌ {A = ℕ} 0 1 = cc in omega arith)

blank_dec : (t : Table) (r : ℕ) → Dec (Blank t r)
blank_dec t r = Dec.and (dec_lt r t.m) (unknown_dec (get_or (used t) r unused_rule).delay)

-- no blank, or a lowest
pub no_or_first_blank : (t : Table) → NoBlank t ⊎ ((r : ℕ) × FirstBlank t r)
no_or_first_blank t =
    ⊎_elim
    (λ none. inl (λ r b. none r b.0 b))
    (λ f. inr (f.at, record { blank = f.holds; before = f.before }))
    (none_or_first (Blank t) (blank_dec t) t.m)

-- the same number, place and buffer
pub record Same (r s : Told) (out out' : List ℕ) : Type 0 where
  pub result : r ≡ s
  pub buffer : out ≡ out'

same : (r s : Told) → r.refusal ≡ s.refusal → r.place ≡ s.place → r ≡ s
same r s e f = ap (λ x. record { refusal = x; place = r.place }) e ∙ ap (λ x. record { refusal = s.refusal; place = x }) f

module _ (t : Table) (N : ℕ) (out₀ : List ℕ) (r s : Told) (out out' : List ℕ) where
  refused_same : (f p : ℕ) → Refused f p out₀ r out → Refused f p out₀ s out' → Same r s out out'
  refused_same f p a b = record { result = same r s (a.number ∙ sym b.number) (a.place ∙ sym b.place); buffer = a.kept ∙ sym b.kept }

  answered_same : Within t → Live (shape_of t) → Answered t N out₀ r out → Answered t N out₀ s out' → Same r s out out'
  answered_same w live a b =
      record {
        result = same r s (a.number ∙ sym b.number) (a.place ∙ sym b.place);
        buffer = timed_unique (shape_of t) (delays t) N t.n (within_fits t w) live w.n_low out₀ out out' a.times b.times;
      }

  -- ONLY ONE OUTCOME: one of the six cases holds, and it fixes the result and the buffer
  pub simulation_unique : SimulationOf t N out₀ r out → SimulationOf t N out₀ s out' → Same r s out out'
  simulation_unique a b = ⊎_elim within (λ k. refused_same 3 k.0 (a.outside k.0 k.1) (b.outside k.0 k.1)) (within_or_first_bad t)
    where
      turning : Within t → Span N → NoBlank t → t.n * N ≤ length out₀ → Same r s out out'
      turning w n none room =
          ⊎_elim
          (λ k. refused_same 5 k.0 (a.loop w n none room k.0 k.1) (b.loop w n none room k.0 k.1))
          (λ live. answered_same w live (a.simulated w n none room live) (b.simulated w n none room live))
          (knot_or_live (shape_of t) t.n (within_fits t w))

      roomy : Within t → Span N → NoBlank t → Same r s out out'
      roomy w n none =
          by_cases (dec_lt (length out₀) (t.n * N))
          (λ l. refused_same 8 (t.n * N) (a.room w n none l) (b.room w n none l))
          (λ l. turning w n none (omega arith))

      known : Within t → Span N → Same r s out out'
      known w n = ⊎_elim (roomy w n) (λ q. refused_same 7 q.0 (a.unknown w n q.0 q.1) (b.unknown w n q.0 q.1)) (no_or_first_blank t)

      within : Within t → Same r s out out'
      within w = by_cases (Dec.and (dec_le min_occurrences N) (dec_le N max_occurrences)) (known w) (λ d. refused_same 9 0 (a.span w d) (b.span w d))
