-- What the paper says of a table, whatever is asked of it: one of five cases, and only one.
--
--   Verdict             == field k outside its limits; a loop without a turn, named at u; no loop; a sum that is too wide; or the answer a
--   WideAt S K a        == the case of refusal 11: a sum is 2^63 or more, with every delay at its least at the low end, or at its greatest at the high end
--   Judges t v          == v is the verdict on the table t
--
-- Theorems: proper (every rule may have some delay), range_never_wide, never_wide_at (refusal 11 never comes), verdict_exists, verdict_unique.
use Rattle.std.specs.Prelude.{◌≡◌, refl, ◌⊎◌, ℕ, ◌≤◌, ◌<◌, ◌^◌, get_or}
use Rattle.std.proofs.Common.{ap, ⊎_elim, arith}
use Rattle.model.specs.Shape.{Shape}
use Rattle.model.specs.Loop.{SomeLoop, NoLoop, Live}
use Rattle.model.specs.Knot.{Knot}
use Rattle.model.specs.Ratio.{Lowest}
use Rattle.model.specs.Period.{Period}
use Rattle.model.specs.Filling.{Ranges}
use Rattle.model.specs.Ends.{Measure, Attained, Range, RangeOf}
use Rattle.model.specs.Wide.{WideSum}
use Rattle.model.specs.Answer.{Answer, Answers}
use Rattle.theory.specs.Filling.{Proper, ranges_proper}
use Rattle.theory.specs.Knot.{knot_unique, knot_not_live, knot_or_live, loop_or_none}
use Rattle.theory.specs.Answer.{answer_unique, answer_exists}
use Rattle.theory.specs.Wide.{period_limits, small_not_wide}
use Rattle.table.specs.declared.Table.{Table}
use Rattle.table.specs.Limits.{max_offset, max_delay}
use Rattle.table.specs.Form.{unused_rule}
use Rattle.table.specs.Fields.{Within, FirstBad, within_or_first_bad, within_not_bad, first_bad_unique}
use Rattle.table.specs.Meaning.{used, delay_meant, shape_of, ranges_of, within_fits, within_offsets, within_delays}

pub data Verdict : Type 0 where
  outside : ℕ → Verdict
  knotted : ℕ → Verdict
  flat : Verdict
  wide : Verdict
  found : Answer → Verdict

abbrev pub WideAt : Shape → Ranges → Range → Type 0
WideAt S K a = WideSum (2 ^ 63) S K.least a.low_p a.low_q ⊎ WideSum (2 ^ 63) S K.greatest a.high_p a.high_q

abbrev pub Judges : Table → Verdict → Type 0
Judges t (outside k) = FirstBad t k
Judges t (knotted u) = Within t × Knot (shape_of t) u
Judges t flat = Within t × Live (shape_of t) × NoLoop (shape_of t)
Judges t wide = Within t × Live (shape_of t) × ((a : Answer) × Answers (shape_of t) (ranges_of t) t.n a × WideAt (shape_of t) (ranges_of t) a.ends)
Judges t (found a) = Within t × Live (shape_of t) × Answers (shape_of t) (ranges_of t) t.n a × (¬ (WideAt (shape_of t) (ranges_of t) a.ends))

-- every rule may have some delay
pub proper : (t : Table) → Proper (shape_of t) (ranges_of t)
proper t = ranges_proper (shape_of t) max_delay (λ r. delay_meant (get_or (used t) r unused_rule).delay)

-- NEVER WIDE, whatever is measured, if no filling gives more than a period can be
pub range_never_wide : (t : Table) → Within t → (M : Measure) → ((D : ℕ → ℕ) → ((r : ℕ) → r < t.m → D r ≤ 1000000) → (P Q : ℕ) → M D P Q → Lowest P Q → (P ≤ 256000000) × (Q ≤ 3840)) → (a : Range)
    → RangeOf (shape_of t) (ranges_of t) M a → ¬ (WideAt (shape_of t) (ranges_of t) a)
range_never_wide t w M small a x =
    ⊎_elim
    (small_not_wide (shape_of t) (ranges_of t).least t.n a.low_p a.low_q w.n_high (within_fits t w) (within_offsets t w) least (given x.low.attained))
    (small_not_wide (shape_of t) (ranges_of t).greatest t.n a.high_p a.high_q w.n_high (within_fits t w) (within_offsets t w) (within_delays t w) (given x.high.attained))
  where
    least : (r : ℕ) → r < t.m → (ranges_of t).least r ≤ 1000000
    least r b = omega (arith, within_delays t w r b, proper t r b)

    given : {P Q : ℕ} → Attained (shape_of t) (ranges_of t) M P Q → (P ≤ 256000000) × (Q ≤ 3840)
    given y = small y.D (λ r b. omega (arith, y.fills r b, within_delays t w r b)) _ _ y.given y.lowest

pub never_wide_at : (t : Table) → Within t → (a : Answer) → Answers (shape_of t) (ranges_of t) t.n a → ¬ (WideAt (shape_of t) (ranges_of t) a.ends)
never_wide_at t w a x =
    range_never_wide t w (Period (shape_of t)) (λ D d P Q. period_limits (shape_of t) D t.n P Q w.n_high (within_fits t w) (within_offsets t w) d) a.ends x.ends

-- THERE IS A VERDICT
pub verdict_exists : (t : Table) → (v : Verdict) × Judges t v
verdict_exists t = ⊎_elim inside (λ b. (outside b.0, b.1)) (within_or_first_bad t)
  where
    answer : Within t → Live (shape_of t) → SomeLoop (shape_of t) → (v : Verdict) × Judges t v
    answer w live some =
        let (a, x) = answer_exists (shape_of t) (ranges_of t) t.n (proper t) (within_fits t w) max_offset max_delay (within_offsets t w) (within_delays t w) live some in
        (found a, (w, live, x, never_wide_at t w a x))

    inside : Within t → (v : Verdict) × Judges t v
    inside w =
        ⊎_elim
        (λ k. (knotted k.0, (w, k.1)))
        (λ live. ⊎_elim (answer w live) (λ none. (flat, (w, live, none))) (loop_or_none (shape_of t) t.n (within_fits t w)))
        (knot_or_live (shape_of t) t.n (within_fits t w))

-- an answer speaks of a loop
answers_loop : (S : Shape) (K : Ranges) (n : ℕ) (a : Answer) → Answers S K n a → ¬ (NoLoop S)
answers_loop S K n a x none = none x.ends.low.attained.given.at x.ends.low.attained.given.loop x.ends.low.attained.given.is_loop

-- ONLY ONE
pub verdict_unique : (t : Table) (v w : Verdict) → Judges t v → Judges t w → v ≡ w
verdict_unique t (outside j) (outside k) a b = ap outside (first_bad_unique t j k a b)
verdict_unique t (outside j) (knotted u) a b = absurd (within_not_bad t j b.0 a)
verdict_unique t (outside j) flat a b = absurd (within_not_bad t j b.0 a)
verdict_unique t (outside j) wide a b = absurd (within_not_bad t j b.0 a)
verdict_unique t (outside j) (found y) a b = absurd (within_not_bad t j b.0 a)
verdict_unique t (knotted u) (outside k) a b = absurd (within_not_bad t k a.0 b)
verdict_unique t (knotted u) (knotted w) a b = ap knotted (knot_unique (shape_of t) u w a.1 b.1)
verdict_unique t (knotted u) flat a b = absurd (knot_not_live (shape_of t) u a.1 b.1)
verdict_unique t (knotted u) wide a b = absurd (knot_not_live (shape_of t) u a.1 b.1)
verdict_unique t (knotted u) (found y) a b = absurd (knot_not_live (shape_of t) u a.1 b.1)
verdict_unique t flat (outside k) a b = absurd (within_not_bad t k a.0 b)
verdict_unique t flat (knotted w) a b = absurd (knot_not_live (shape_of t) w b.1 a.1)
verdict_unique t flat flat a b = refl
verdict_unique t flat wide a b = absurd (never_wide_at t b.0 b.2.0 b.2.1 b.2.2)
verdict_unique t flat (found y) a b = absurd (answers_loop (shape_of t) (ranges_of t) t.n y b.2 a.2)
verdict_unique t wide w a b = absurd (never_wide_at t a.0 a.2.0 a.2.1 a.2.2)
verdict_unique t (found x) (outside k) a b = absurd (within_not_bad t k a.0 b)
verdict_unique t (found x) (knotted w) a b = absurd (knot_not_live (shape_of t) w b.1 a.1)
verdict_unique t (found x) flat a b = absurd (answers_loop (shape_of t) (ranges_of t) t.n x a.2 b.2)
verdict_unique t (found x) wide a b = absurd (never_wide_at t b.0 b.2.0 b.2.1 b.2.2)
verdict_unique t (found x) (found y) a b = ap found (answer_unique (shape_of t) (ranges_of t) t.n x y a.2 b.2)
