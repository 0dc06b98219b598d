-- Refusal 11 never comes: within the limits every sum is far below 2^63.
--
--   period_limits     P and Q of a period in lowest terms are small
--   small_not_wide    at such P/Q no sum over a loop or a path is wide
use Rattle.std.proofs.Common.{⊎_elim, arith, mul-le-mul}
use Rattle.std.specs.Prelude.{ℕ, ◌*◌, ◌≤◌, ◌<◌, ◌^◌, length}
use Rattle.model.specs.Shape.{Shape, Fits}
use Rattle.model.specs.Sums.{delays, offsets}
use Rattle.model.specs.Walk.{sources}
use Rattle.model.specs.Ratio.{Lowest}
use Rattle.model.specs.Period.{Period}
use Rattle.model.specs.Wide.{WideSum}
use Rattle.theory.specs.Distinct.{pigeonhole}
use Rattle.theory.specs.Sums.{delays_most, offsets_most}
use Rattle.theory.specs.Loop.{sources_below, length_sources, loop_short}
use Rattle.theory.specs.Period.{period_small}

-- P and Q are no larger than the sums of the loop that attains the period
pub period_limits : (S : Shape) (E : ℕ → ℕ) (n P Q : ℕ) → n ≤ 256 → Fits S n → ((r : ℕ) → r < S.rules → S.offset r ≤ 15) → ((r : ℕ) → r < S.rules → E r ≤ 1000000)
    → Period S E P Q → Lowest P Q → (P ≤ 256000000) × (Q ≤ 3840)
period_limits S E n P Q few fits o d p low = (
  omega (arith, (period_small S E P Q p low).1, delays_most S E 1000000 d p.at p.at p.loop p.is_loop.closed, ln),
  omega (arith, (period_small S E P Q p low).0, offsets_most S 15 o p.at p.at p.loop p.is_loop.closed, ln),
)
  where
    ln : length p.loop ≤ 256
    ln = omega (arith, loop_short S n fits p.at p.loop p.is_loop)

-- NEVER WIDE. A path or a loop has at most 256 rules, so delays sum to at most 256,000,000 and offsets to at most 3,840; and products of such with P and
-- Q of that size are below 2^63.
pub small_not_wide : (S : Shape) (D : ℕ → ℕ) (n P Q : ℕ) → n ≤ 256 → Fits S n → ((r : ℕ) → r < S.rules → S.offset r ≤ 15) → ((r : ℕ) → r < S.rules → D r ≤ 1000000)
    → (P ≤ 256000000) × (Q ≤ 3840) → ¬ (WideSum (2 ^ 63) S D P Q)
small_not_wide S D n P Q few fits o d small x =
    ⊎_elim (λ h. omega (arith, d1)) (λ h. ⊎_elim (λ h. omega (arith, o1)) (λ h. ⊎_elim (λ h. omega (arith, qd)) (λ h. omega (arith, po)) h) h) x.big
  where
    len : length x.rs ≤ 256
    len = omega (arith, length_sources S n fits x.rs, pigeonhole n (sources S x.rs) x.simple (sources_below S n fits x.u x.w x.rs x.walks))

    o1 : offsets S x.rs ≤ 3840
    o1 = omega (arith, offsets_most S 15 o x.u x.w x.rs x.walks, len)

    d1 : delays D x.rs ≤ 256000000
    d1 = omega (arith, delays_most S D 1000000 d x.u x.w x.rs x.walks, len)

    qd : Q * delays D x.rs ≤ 3840 * 256000000
    qd = mul-le-mul small.1 d1

    po : P * offsets S x.rs ≤ 256000000 * 3840
    po = mul-le-mul small.0 o1
