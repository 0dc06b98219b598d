-- `search::gcd` meets its contract. The loop's invariant: whatever is the greatest common divisor of x and y is that of a and b. The measure is y.
-- Assumes nothing.
use Rattle.std.proofs.Common.{ℕ}
use Rattle.theory.specs.Ratio.{IsGcd}
use Rattle.search.proofs.gcd.Given as goal

abbrev pub invariant-loop-y : goal.invariant-loop-y
invariant-loop-y l = (d : ℕ) → IsGcd l.x l.y d → IsGcd l.a l.b d

abbrev pub decreases-loop-y : goal.decreases-loop-y
decreases-loop-y l = l.y
