-- `loops::first_loop` meets its contract: there is a loop only where peeling leaves a remnant, and then it is sought.
-- Assumes nothing.
use Rattle.std.proofs.Common.{length, arith}
use Rattle.columns.specs.Views.{of_arcs}
use Rattle.peel.specs.Peel.{remnant_stays}
use Rattle.loops.specs.Found.{found_peeled}
use Rattle.loops.proofs.first_loop.Goals as goal

pub seek_loop-requires-clause-stays : goal.seek_loop-requires-clause-stays
seek_loop-requires-clause-stays c =
    let a = c.args in
    remnant_stays (of_arcs a.arcs.now) a.arcs.now.n a.arcs.now.limits.fits a.arcs.now.limits.few_transitions _ c.peel-peeled.ensures.remnant

pub returns : goal.returns
returns c =
    let a = c.args in
    found_peeled a.arcs.now.source.now a.arcs.now.target.now a.list.now a.arcs.now.m a.arcs.now.n _ _ _ a.arcs.now.limits c.peel-peeled.ensures (omega arith)
