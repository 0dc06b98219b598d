-- `order::order` meets its contract.
-- Assumes nothing.
use Rattle.std.proofs.Common.{◌<◌, arith}
use Rattle.simulation.specs.Order.{placing_start, found_some, placing_step, placing_end}
use Rattle.simulation.proofs.order.order.Goals as goal

pub loop-k-init : goal.loop-k-init
loop-k-init c = placing_start _ _

pub unwrap-v-requires : goal.unwrap-v-requires
unwrap-v-requires c = found_some _ _ c.requires.bounded _ _ _ c.loop-k.invariant c.requires.ranked (omega arith) _ c.next.ensures

pub loop-k-preserved : goal.loop-k-preserved
loop-k-preserved c =
    let free : c.loop-k.k < c.args.n = omega arith in
    let found = rw c.unwrap-v.ensures at c.next.ensures in
    rw (c.place.ensures.0, c.place.ensures.1) (placing_step _ _ c.requires.bounded _ _ _ c.loop-k.invariant _ free found)

pub returns : goal.returns
returns c = placing_end _ _ c.requires.bounded _ _ _ c.loop-k.invariant (omega arith)
