-- `peel::count_entering` meets its contract.
use Rattle.std.proofs.Common.{refl, arith}
use Rattle.columns.specs.Views.{of_arcs}
use Rattle.peel.specs.Peeling.{tallied_none, tallied_most}
use Rattle.peel.proofs.count_entering.Goals as goal

pub loop-r-init : goal.loop-r-init
loop-r-init c = let a = c.args in record { room = refl; tallied = tallied_none (of_arcs a.arcs.now) a.alive.now }

pub overflow_add-entering : goal.overflow_add-entering
overflow_add-entering c =
    let a = c.args in
    omega (arith, a.arcs.now.limits.few_rules, tallied_most (of_arcs a.arcs.now) a.alive.now 0 0 c.loop-r.r c.loop-r.entering c.loop-r.invariant.tallied c.from-w.result)
