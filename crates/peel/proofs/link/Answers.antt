-- `peel::link` meets its contract.
use Rattle.std.proofs.Common.{refl, arith}
use Rattle.peel.specs.Linked.{linked_none, linked_last}
use Rattle.peel.proofs.link.Goals as goal

pub loop-r-init : goal.loop-r-init
loop-r-init c = rw (c.requires.2, c.requires.3) (linked_none c.args.column.now)

pub loop-r-preserved : goal.loop-r-preserved
loop-r-preserved c =
    linked_last c.args.column.now c.loop-r.r c.loop-r.head c.loop-r.next c.loop-r.invariant (omega arith) _ _ _ c.from-v.ensures (omega (arith, c.from-v.ensures, c.requires.1 c.loop-r.r c.loop-r-test.true)) refl refl
