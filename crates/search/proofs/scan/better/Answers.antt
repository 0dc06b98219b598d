-- `search::scan::better` meets its contract. Low sums have products below 2 ^ 64. Assumes nothing.
use Rattle.std.proofs.Common.{arith, mul-le-mul}
use Rattle.search.proofs.scan.better.Goals as goal

pub overflow_mul-y : goal.overflow_mul-y
overflow_mul-y c = omega (arith, mul-le-mul c.requires.low_2.delays_low c.requires.low.offsets_low)

pub overflow_mul-x : goal.overflow_mul-x
overflow_mul-x c = omega (arith, mul-le-mul c.requires.low.delays_low c.requires.low_2.offsets_low)
