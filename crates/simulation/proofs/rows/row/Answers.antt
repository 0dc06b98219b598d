-- `rows::row` meets its contract.
-- Assumes nothing.
use Rattle.std.proofs.Common.{◌<◌, ◌≡◌, arith}
use Rattle.simulation.specs.Rows.{asks_all, going_step, row_end}
use Rattle.simulation.proofs.rows.row.Goals as goal

pub pull-best-requires : goal.pull-best-requires
pull-best-requires c =
    let pre = c.requires in
    let below : c.loop-k.k < c.args.n = omega arith in
    asks_all _ _ _ pre.plan _ _ below _ c.loop-k.invariant.done _ c.from-v.ensures
    pre.i_bound.0 (omega (arith, c.loop-k.invariant.size))

pub loop-k-preserved : goal.loop-k-preserved
loop-k-preserved c =
    let pre = c.requires in
    let below : c.loop-k.k < c.args.n = omega arith in
    going_step _ _ _ pre.plan _ _ below _ c.loop-k.invariant.done _ c.from-v.ensures
    _ (omega (arith, pre.plan.complete.ordered.low c.loop-k.k below, c.loop-k.invariant.size)) c.pull-best.ensures _ c.loop-k.invariant

pub returns : goal.returns
returns c =
    let e : c.loop-k.k ≡ c.args.n = omega arith in
    row_end _ _ _ c.requires.plan _ _ _ (rw e at c.loop-k.invariant)
