-- `sevens::code_length` meets its contract.
-- Invariant: the groups counted and those of what is left are those of v and one more.
-- The measure is what is left of v. Assumes nothing.
use Rattle.std.proofs.Common.{arith}
use Rattle.sevens.specs.Laws.{code_some, code_size, code_length_last, code_length_more}
use Rattle.sevens.proofs.code_length.Goals as goal

pub overflow_add-count : goal.overflow_add-count
overflow_add-count c =
    let v = c.args.v in
    omega (arith, code_some c.loop-left.left, code_size 10 v (omega arith) (omega arith))

pub loop-left-preserved : goal.loop-left-preserved
loop-left-preserved c = omega (arith, code_length_more c.loop-left.left (omega arith))

pub returns : goal.returns
returns c = omega (arith, code_length_last c.loop-left.left (omega arith))
