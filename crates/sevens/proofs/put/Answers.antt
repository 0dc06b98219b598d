-- `sevens::put` meets its contract.
-- Assumes nothing.
use Rattle.std.proofs.Common.{length-set, arith}
use Rattle.sevens.specs.Laws.{code_some, code_length_more, put_none}
use Rattle.sevens.specs.Steps.{write_again, write_last, write_all_lem}
use Rattle.sevens.proofs.put.Goals as goal
use Rattle.sevens.proofs.put.Goals.{then-out-at-via-then-out-at, then-out-at-via-else-out-at+then-out-at-2}

pub returns-then-out-at : goal.returns-then-out-at
returns-then-out-at c =
    let start = c.args in
    put_none start.v start.out.now start.at
    (elim c.then-out-at.branch [
      | then-out-at-via-then-out-at w ↦ omega (arith, code_some start.v)
      | then-out-at-via-else-out-at+then-out-at-2 w ↦ omega arith
    ])

pub bounds-out-i : goal.bounds-out-i
bounds-out-i c = omega (arith, code_some c.loop-left.left)

pub loop-left-preserved : goal.loop-left-preserved
loop-left-preserved c =
    let at = c.loop-left in (
      simp length-set at.invariant.0,
      at.invariant.1,
      at.invariant.2,
      omega (arith, code_length_more at.left (omega arith)),
      write_again _ at.out at.i at.left _ at.invariant.4 (omega arith),
    )

pub bounds-out-i-2 : goal.bounds-out-i-2
bounds-out-i-2 c = omega (arith, code_some c.loop-left.left)

pub returns : goal.returns
returns c =
    let start = c.args in
    let at = c.loop-left in
    write_all_lem start.v start.out.now _ start.at _ (write_last _ at.out at.i at.left _ at.invariant.4 (omega arith)) (omega arith)
