-- Document 000's words: a schedule is a linear timing function, and the period the least with one.
--
--   keeps_linear, linear_keeps    X keeps every rule at P/Q just where X + P i, over Q, is a timing function at every occurrence: (2.4) to (2.6)
--   linear_minimum                the period is the least ratio with such a function, and has one
use Rattle.std.specs.Prelude.{◌≡◌, List, ℕ, ◌+◌, ◌*◌, ◌-◌, ◌≤◌}
use Rattle.std.proofs.Common.{ap, arith, le_refl}
use Rattle.model.specs.Shape.{Shape, Fits}
use Rattle.model.specs.Period.{Period}
use Rattle.model.specs.Schedule.{Keeps}
use Rattle.model.specs.Thesis.{Linear}
use Rattle.theory.specs.Period.{period_minimum, period_schedule}
use Rattle.theory.specs.Relax.{values}

-- the occurrence drops out: P i stands on both sides
pub keeps_linear : (S : Shape) (D : ℕ → ℕ) (P Q : ℕ) (X : List ℕ) → Keeps S D P Q X → Linear S D P Q X
keeps_linear S D P Q X k r i b h = let e : i ≡ S.offset r + (i - S.offset r) = omega arith in omega (arith, k r b, ap (λ x. P * x) e)

pub linear_keeps : (S : Shape) (D : ℕ → ℕ) (P Q : ℕ) (X : List ℕ) → Linear S D P Q X → Keeps S D P Q X
linear_keeps S D P Q X k r b = let e : S.offset r - S.offset r ≡ 0 = omega arith in omega (arith, k r (S.offset r) b (le_refl _), ap (λ x. P * x) e)

-- THE THESIS'S PERIOD: the least p with a linear timing function
pub linear_minimum : (S : Shape) (D : ℕ → ℕ) (P Q : ℕ) → Period S D P Q → (p q : ℕ) (Y : List ℕ) → Linear S D p q Y → P * q ≤ p * Q
linear_minimum S D P Q i p q Y l = period_minimum S D P Q i p q Y (linear_keeps S D p q Y l)

pub linear_exists : (S : Shape) (D : ℕ → ℕ) (n P Q : ℕ) → Fits S n → Period S D P Q → Linear S D P Q (values S D P Q n n)
linear_exists S D n P Q fits i = keeps_linear S D P Q (values S D P Q n n) (period_schedule S D P Q i n fits).is_schedule.keeps
