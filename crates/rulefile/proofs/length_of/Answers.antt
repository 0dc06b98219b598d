-- `rulefile::length_of` meets its contract: a number of 64 bits takes at most ten groups of seven. No loop. Assumes nothing.
use Rattle.std.proofs.Common.{arith}
use Rattle.sevens.specs.Laws.{code_size}
use Rattle.rulefile.proofs.length_of.Goals as goal

pub returns : goal.returns
returns c = (c.code_length.ensures, omega (arith, c.code_length.ensures, code_size 10 c.args.v (omega arith) (omega arith)))
