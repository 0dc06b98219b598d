-- DEMAND 3: with blanks, the same lists are refused; otherwise the two ends are the least and the greatest period over every way to fill the blanks with 0 to
-- 1,000,000, and "exact" is said precisely when the ends meet. Filling any blank never moves an end outward and never alters an exact period. The same of each
-- transition's rate.
--
-- The same lists are refused: `refused_iff` and `rate_refused_iff` (Demand2) speak of no delay.
--
--   ends_of, rate_ends_of    == the two ends that an analysis and a rate hand back, and whether they are said to meet
--   analysis_ends        THE TWO ENDS handed back are the least and the greatest period over every filling, each attained
--   analysis_exact       EXACT PRECISELY WHEN THE ENDS MEET
--   rate_ends, rate_exact    the same of a rate
--   Filled t t'          == t' is t with some blanks filled (Filled)
--   EndsInward a b       == neither end of b lies outside those of a, and an exact a stays as it is (Filled); exact_kept: then b is a
--   OutcomesInward o o', analysis_inward        FILLING, between what two analyses hand back
--   RatesInward r r', rate_inward        between what two rates hand back
--   InwardText x x', text_inward        between what is printed for two files
use Rattle.std.specs.Prelude.{◌≡◌, refl, Bool, true, ◌⊎◌, ◌↔◌, List, ℕ, ◌<◌}
use Rattle.std.proofs.Common.{sym, ap, ◌∙◌, subst, true≢false, inl, inr, ⊎_elim, arith, le_refl}
use Rattle.std.proofs.Math.Path.{subst⁻¹}
use Rattle.model.specs.Ends.{Exact, Range, RangeOf}
use Rattle.model.specs.Period.{Period}
use Rattle.model.specs.Rate.{Rate}
use Rattle.model.specs.Answer.{Answer}
use Rattle.table.specs.declared.Table.{Table}
use Rattle.table.specs.Meaning.{shape_of, ranges_of}
use Rattle.period.specs.Promise.{Analysis}
use Rattle.rulefile.specs.declared.FileRead.{FileRead}
use Rattle.rates.specs.Rate.{Rated}
use Rattle.engine.specs.Verdict.{Verdict, outside, knotted, flat, wide, found}
use Rattle.rulefile.specs.File.{read_of, accepted_read}
use Rattle.period.specs.Promise.{Outcome, judged_outcome, outcome_of, AnalysisOf}
use Rattle.rates.specs.Rate.{RateVerdict, bad_field, no_name, knot_at, unreached, too_wide, rated, rated_of, RateOf}
use Rattle.words.specs.Lines.{refused_line_of}
use Rattle.text.specs.Text.{answer_text, verdict_text, TableText, ReadText, FileText}
use Rattle.demands.specs.Outcomes.{short_or_roomy, analysis_answered, rate_answered}
use Rattle.demands.specs.Exists.{Buffers}
use Rattle.demands.specs.Filled.{Filled, EndsInward}
use Rattle.demands.specs.Filled as verdicts
use Rattle.demands.specs.Rates as rate_verdicts

-- ---------------------------------------------------------------------------------------------------------------------------------- the two ends

abbrev pub ends_of : Analysis → Range
ends_of x = record { low_p = x.low.p; low_q = x.low.q; high_p = x.high.p; high_q = x.high.q; exact = x.exact }

abbrev pub rate_ends_of : Rated → Range
rate_ends_of x = record { low_p = x.low.p; low_q = x.low.q; high_p = x.high.p; high_q = x.high.q; exact = x.exact }

-- said to meet just where they do
exact_iff : {p q P Q : ℕ} (e : Bool) → Exact p q P Q e → (e ≡ true) ↔ ((p ≡ P) × (q ≡ Q))
exact_iff e (inl m) = (λ _. (m.0, m.1), λ _. m.2)
exact_iff e (inr m) = (λ h. absurd (true≢false (sym h ∙ m.1)), λ h. absurd (m.0 h))

-- THE TWO ENDS ARE THE LEAST AND THE GREATEST PERIOD OVER EVERY FILLING. `RangeOf` has for each end a filling that gives it, in lowest terms, and that no filling
-- gives less, or more.
pub analysis_ends : (t : Table) (b : Buffers) (o : Outcome) → AnalysisOf t b.schedule b.low b.high o → o.result.refusal ≡ 0
    → RangeOf (shape_of t) (ranges_of t) (Period (shape_of t)) (ends_of o.result)
analysis_ends t b o is none =
    let x = analysis_answered t b o is none in
    subst⁻¹ (λ (z : Outcome). RangeOf (shape_of t) (ranges_of t) (Period (shape_of t)) (ends_of z.result)) x.result x.answers.ends

-- EXACT PRECISELY WHEN THE ENDS MEET
pub analysis_exact : (t : Table) (b : Buffers) (o : Outcome) → AnalysisOf t b.schedule b.low b.high o → o.result.refusal ≡ 0
    → (o.result.exact ≡ true) ↔ ((o.result.low.p ≡ o.result.high.p) × (o.result.low.q ≡ o.result.high.q))
analysis_exact t b o is none = exact_iff o.result.exact (analysis_ends t b o is none).meet

-- THE SAME OF A TRANSITION'S RATE
pub rate_ends : (t : Table) (v : ℕ) (r : Rated) → RateOf t v r → r.refusal ≡ 0 → RangeOf (shape_of t) (ranges_of t) (λ D. Rate (shape_of t) D v) (rate_ends_of r)
rate_ends t v r is none =
    let x = rate_answered t v r is none in subst⁻¹ (λ (z : Rated). RangeOf (shape_of t) (ranges_of t) (λ D. Rate (shape_of t) D v) (rate_ends_of z)) x.result x.rates

pub rate_exact : (t : Table) (v : ℕ) (r : Rated) → RateOf t v r → r.refusal ≡ 0 → (r.exact ≡ true) ↔ ((r.low.p ≡ r.high.p) × (r.low.q ≡ r.high.q))
rate_exact t v r is none = exact_iff r.exact (rate_ends t v r is none).meet

-- -------------------------------------------------------------------------------------------------------------------------------- blanks filled

-- what moves inward and is exact stays as it is
pub exact_kept : (a b : Range) → EndsInward a b → a.exact ≡ true → b ≡ a
exact_kept a b h e = same (h.2 e).0 (h.2 e).1 (h.2 e).2 (h.2 e).3 ((h.2 e).4 ∙ sym e)
  where
    same : b.low_p ≡ a.low_p → b.low_q ≡ a.low_q → b.high_p ≡ a.high_p → b.high_q ≡ a.high_q → b.exact ≡ a.exact → b ≡ a
    same e f g h j i = record { low_p = e i; low_q = f i; high_p = g i; high_q = h i; exact = j i }

-- what filling may do to what an analysis hands back: nothing to a refusal; and an answer stays one, whose ends move inward
pub record OutcomesInward (o o' : Outcome) : Type 0 where
  pub refused : 0 < o.result.refusal → o' ≡ o
  pub answered : o.result.refusal ≡ 0 → o'.result.refusal ≡ 0
  pub ends : EndsInward (ends_of o.result) (ends_of o'.result)

ends_same : (a : Range) → EndsInward a a
ends_same a = (le_refl _, le_refl _, λ e. (refl, refl, refl, refl, e))

-- what is the same moves nowhere
outcome_same : (o o' : Outcome) → o' ≡ o → OutcomesInward o o'
outcome_same o o' e =
    subst⁻¹ (OutcomesInward o) e (record { refused = λ l. refl; answered = λ z. z; ends = ends_same (ends_of o.result) })

answers_inward : (a a' : Answer) (b : Buffers) → EndsInward a.ends a'.ends → OutcomesInward (judged_outcome (found a) b.schedule b.low b.high) (judged_outcome (found a') b.schedule b.low b.high)
answers_inward a a' b e = record { refused = λ l. absurd (omega arith); answered = λ z. refl; ends = e }

module _ (n : ℕ) (b : Buffers) where
  verdicts_inward : (v w : Verdict) → verdicts.Inward v w → OutcomesInward (outcome_of n v b.schedule b.low b.high) (outcome_of n w b.schedule b.low b.high)
  verdicts_inward (outside k) w h = outcome_same _ _ (ap (λ z. outcome_of n z b.schedule b.low b.high) h)
  verdicts_inward (knotted u) w h = outcome_same _ _ (ap (λ z. outcome_of n z b.schedule b.low b.high) h)
  verdicts_inward flat w h = outcome_same _ _ (ap (λ z. outcome_of n z b.schedule b.low b.high) h)
  verdicts_inward wide w h = outcome_same _ _ (ap (λ z. outcome_of n z b.schedule b.low b.high) h)
  verdicts_inward (found a) (outside k) h = absurd h
  verdicts_inward (found a) (knotted u) h = absurd h
  verdicts_inward (found a) flat h = absurd h
  verdicts_inward (found a) wide h = absurd h
  verdicts_inward (found a) (found a') h =
      ⊎_elim
      (λ s. outcome_same _ _ (s (found a') refl ∙ sym (s (found a) refl)))
      (λ s. subst⁻¹ (λ (z : Outcome). OutcomesInward z (outcome_of n (found a') b.schedule b.low b.high)) (s (found a)) (subst⁻¹ (OutcomesInward (judged_outcome (found a) b.schedule b.low b.high)) (s (found a')) (answers_inward a a' b h)))
      (short_or_roomy n b)

-- FILLING ANY BLANK REFUSES THE SAME LISTS, MOVES NO END OUTWARD AND LEAVES AN EXACT PERIOD AS IT IS: between what two analyses hand back, with the same buffers
-- lent
pub analysis_inward : (t t' : Table) → Filled t t' → (b : Buffers) (o o' : Outcome) → AnalysisOf t b.schedule b.low b.high o → AnalysisOf t' b.schedule b.low b.high o' → OutcomesInward o o'
analysis_inward t t' f b o o' x y =
    let h = verdicts_inward t.n b x.verdict y.verdict (verdicts.filled_inward t t' f x.verdict y.verdict x.judged y.judged) in
    let e : o' ≡ outcome_of t.n y.verdict b.schedule b.low b.high = y.result ∙ ap (λ z. outcome_of z y.verdict b.schedule b.low b.high) f.n_same in
    subst⁻¹ (λ (z : Outcome). OutcomesInward z o') x.result (subst⁻¹ (OutcomesInward (outcome_of t.n x.verdict b.schedule b.low b.high)) e h)

-- the same of a rate
pub record RatesInward (r r' : Rated) : Type 0 where
  pub refused : 0 < r.refusal → r' ≡ r
  pub answered : r.refusal ≡ 0 → r'.refusal ≡ 0
  pub ends : EndsInward (rate_ends_of r) (rate_ends_of r')

rate_same : (r r' : Rated) → r' ≡ r → RatesInward r r'
rate_same r r' e = subst⁻¹ (RatesInward r) e (record { refused = λ l. refl; answered = λ z. z; ends = ends_same (rate_ends_of r) })

rates_inward : (n : ℕ) (x y : RateVerdict) → rate_verdicts.InwardRate x y → RatesInward (rated_of n x) (rated_of n y)
rates_inward n (bad_field k) y h = rate_same _ _ (ap (rated_of n) h)
rates_inward n no_name y h = rate_same _ _ (ap (rated_of n) h)
rates_inward n (knot_at u) y h = rate_same _ _ (ap (rated_of n) h)
rates_inward n unreached y h = rate_same _ _ (ap (rated_of n) h)
rates_inward n too_wide y h = rate_same _ _ (ap (rated_of n) h)
rates_inward n (rated a) (bad_field k) h = absurd h
rates_inward n (rated a) no_name h = absurd h
rates_inward n (rated a) (knot_at u) h = absurd h
rates_inward n (rated a) unreached h = absurd h
rates_inward n (rated a) too_wide h = absurd h
rates_inward n (rated a) (rated a') h = record { refused = λ l. absurd (omega arith); answered = λ z. refl; ends = h }

-- FILLING, BETWEEN WHAT TWO RATES HAND BACK
pub rate_inward : (t t' : Table) → Filled t t' → (v : ℕ) (r r' : Rated) → RateOf t v r → RateOf t' v r' → RatesInward r r'
rate_inward t t' f v r r' x y =
    let h = rates_inward t.n x.verdict y.verdict (rate_verdicts.rate_filled_inward t t' f v x.verdict y.verdict x.judged y.judged) in
    let e : r' ≡ rated_of t.n y.verdict = y.result ∙ ap (λ z. rated_of z y.verdict) f.n_same in
    subst⁻¹ (λ (z : Rated). RatesInward z r') x.result (subst⁻¹ (RatesInward (rated_of t.n x.verdict)) e h)

-- ------------------------------------------------------------------------------------------------------------------------------ what is printed

-- two texts: the same line of a refusal
pub record SameRefusal (x x' : List ℕ) : Type 0 where
  pub refusal : ℕ
  pub place : ℕ
  pub first : x ≡ refused_line_of refusal place
  pub second : x' ≡ refused_line_of refusal place

-- or the lines of two answers, the second with the ends inward
pub record BothAnswers (x x' : List ℕ) : Type 0 where
  pub answer : Answer
  pub filled : Answer
  pub first : x ≡ answer_text answer
  pub second : x' ≡ answer_text filled
  pub ends : EndsInward answer.ends filled.ends

abbrev pub InwardText : List ℕ → List ℕ → Type 0
InwardText x x' = SameRefusal x x' ⊎ BothAnswers x x'

texts_inward : (v w : Verdict) → verdicts.Inward v w → InwardText (verdict_text v) (verdict_text w)
texts_inward (outside k) w h = inl (record { refusal = 3; place = k; first = refl; second = ap verdict_text h })
texts_inward (knotted u) w h = inl (record { refusal = 5; place = u; first = refl; second = ap verdict_text h })
texts_inward flat w h = inl (record { refusal = 6; place = 0; first = refl; second = ap verdict_text h })
texts_inward wide w h = inl (record { refusal = 11; place = 0; first = refl; second = ap verdict_text h })
texts_inward (found a) (outside k) h = absurd h
texts_inward (found a) (knotted u) h = absurd h
texts_inward (found a) flat h = absurd h
texts_inward (found a) wide h = absurd h
texts_inward (found a) (found a') h = inr (record { answer = a; filled = a'; first = refl; second = refl; ends = h })

-- FILLING, BETWEEN WHAT IS PRINTED FOR TWO FILES whose tables are t and t with some blanks filled
pub text_inward : (s s' : List ℕ) (t t' : Table) → read_of s ≡ accepted_read t → read_of s' ≡ accepted_read t' → Filled t t' → (x x' : List ℕ) → FileText s x → FileText s' x'
    → InwardText x x'
text_inward s s' t t' e e' f x x' is is' =
    let y : TableText t x = (subst (λ (z : FileRead). ReadText z x) e is).accepted (le_refl 0) in
    let y' : TableText t' x' = (subst (λ (z : FileRead). ReadText z x') e' is').accepted (le_refl 0) in
    let h = texts_inward y.verdict y'.verdict (verdicts.filled_inward t t' f y.verdict y'.verdict y.judged y'.judged) in
    subst⁻¹ (λ (z : List ℕ). InwardText z x') y.result (subst⁻¹ (InwardText (verdict_text y.verdict)) y'.result h)
