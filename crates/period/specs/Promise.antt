-- What `analyse` hands back for the verdict on a table, and leaves in the lent buffers: one definition by cases, in the paper's order.
--
--   Outcome                  == what analysis hands back, with the final contents of the three buffers
--   Analysis, told_analysis r == what is told of what is handed back, in one record
--   refused_analysis f p      == refused with number f at place p: all else 0
--   answered_analysis a       == the answer a
--   outcome_of n v x l h      == the outcome for the verdict v, with n transitions and buffers x, l, h lent: 3, then 8, then 5, 6, 11
--   AnalysisOf t x l h o     == THE PROMISE of `analyse`
--
-- Theorem: analysis_unique (one outcome). The promise of `rate` is that of crate `rates`, `RateOf`.
use Rattle.std.specs.Prelude.{Result, Ok, Err, ◌≡◌, Bool, true, false, List, ◌++◌, ℕ, ltb, length, drop}
use Rattle.std.proofs.Common.{sym, ap, ◌∙◌}
use Rattle.model.specs.Answer.{Answer}
use Rattle.refusals.specs.declared.Refusal.{Refusal}
use Rattle.refusals.specs.Number.{number_of}
use Rattle.table.specs.declared.Table.{Table}
use Rattle.engine.specs.Verdict.{Verdict, outside, knotted, flat, wide, found, Judges, verdict_unique}
use Rattle.period.specs.declared.End.{End}
use Rattle.period.specs.declared.Analysis.{Analysis as Given}

abbrev pub pick : {A : Type 0} → Bool → A → A → A
pick true a b = a
pick false a b = b

-- ------------------------------------------------------------------------------------------------------------------------------------ analysis

-- what is told of a table: number 0 and place 0 with its two ends, or the number and the place of a refusal, and all else 0
pub record Analysis : Type 0 where
  pub refusal : ℕ
  pub place : ℕ
  pub exact : Bool
  pub low : End
  pub high : End

pub record Outcome : Type 0 where
  pub result : Analysis
  pub schedule : List ℕ
  pub low : List ℕ
  pub high : List ℕ

abbrev pub outcome : Analysis → List ℕ → List ℕ → List ℕ → Outcome
outcome r x l h = record { result = r; schedule = x; low = l; high = h }

abbrev pub end_of : ℕ → ℕ → ℕ → End
end_of p q len = record { p = p; q = q; len = len }

abbrev pub refused_analysis : ℕ → ℕ → Analysis
refused_analysis f p = record { refusal = f; place = p; exact = false; low = end_of 0 0 0; high = end_of 0 0 0 }

-- what is told by what the analysis hands back
abbrev pub told_analysis : Result Given Refusal → Analysis
told_analysis (Ok a) = record { refusal = 0; place = 0; exact = a.exact; low = a.low; high = a.high }
told_analysis (Err e) = refused_analysis (number_of e.why) e.place

abbrev pub answered_analysis : Answer → Analysis
answered_analysis a =
    record { refusal = 0; place = 0; exact = a.ends.exact; low = end_of a.ends.low_p a.ends.low_q (length a.low_loop); high = end_of a.ends.high_p a.ends.high_q (length a.high_loop) }

-- values in the lowest places, the rest as it was
abbrev pub into : List ℕ → List ℕ → List ℕ
into xs out = xs ++ drop (length xs) out

-- room was lent, so the verdict decides
abbrev pub judged_outcome : Verdict → List ℕ → List ℕ → List ℕ → Outcome
judged_outcome (outside k) x l h = outcome (refused_analysis 3 k) x l h
judged_outcome (knotted u) x l h = outcome (refused_analysis 5 u) x l h
judged_outcome flat x l h = outcome (refused_analysis 6 0) x l h
judged_outcome wide x l h = outcome (refused_analysis 11 0) x l h
judged_outcome (found a) x l h = outcome (answered_analysis a) (into a.schedule x) (into a.low_loop l) (into a.high_loop h)

-- each of the three buffers has n places or more, or the analysis is refused 8
abbrev pub room_for : ℕ → Verdict → List ℕ → List ℕ → List ℕ → Outcome
room_for n v x l h =
    pick (ltb (length x) n) (outcome (refused_analysis 8 n) x l h)
    (pick (ltb (length l) n) (outcome (refused_analysis 8 n) x l h)
    (pick (ltb (length h) n) (outcome (refused_analysis 8 n) x l h) (judged_outcome v x l h)))

-- a table outside its limits is refused before anything else
abbrev pub is_outside : Verdict → Bool
is_outside (outside k) = true
is_outside (knotted u) = false
is_outside flat = false
is_outside wide = false
is_outside (found a) = false

abbrev pub outcome_of : ℕ → Verdict → List ℕ → List ℕ → List ℕ → Outcome
outcome_of n v x l h = pick (is_outside v) (judged_outcome v x l h) (room_for n v x l h)

pub record AnalysisOf (t : Table) (x l h : List ℕ) (o : Outcome) : Type 0 where
  pub verdict : Verdict
  pub judged : Judges t verdict
  pub result : o ≡ outcome_of t.n verdict x l h

-- ONLY ONE OUTCOME
pub analysis_unique : (t : Table) (x l h : List ℕ) (o o' : Outcome) → AnalysisOf t x l h o → AnalysisOf t x l h o' → o ≡ o'
analysis_unique t x l h o o' a b =
    a.result ∙ ap (λ v. outcome_of t.n v x l h) (verdict_unique t a.verdict b.verdict a.judged b.judged) ∙ sym b.result
