-- `distances::near` meets its contract.
use Rattle.std.proofs.Common.{inl, inr, arith}
use Rattle.columns.specs.Views.{of_arcs}
use Rattle.distances.specs.Queue.{ready_home, ready_next, spreading_next, spreading_ends}
use Rattle.distances.proofs.near.Goals as goal

pub look_back-count-requires-clause-searching : goal.look_back-count-requires-clause-searching
look_back-count-requires-clause-searching c =
    let a = c.args in
    let p = c.args.arcs.now.limits in
    ready_home (of_arcs a.arcs.now) a.arcs.now.n a.v p.some_transition p.few_transitions

pub look_back-count-requires-in-loop-done-clause-searching : goal.look_back-count-requires-in-loop-done-clause-searching
look_back-count-requires-in-loop-done-clause-searching c =
    let a = c.args in
    ready_next (of_arcs a.arcs.now) a.arcs.now.n a.v _ _ _ _ c.loop-done.invariant c.loop-done-test.true _ _ c.from-t.ensures (omega (arith, c.from-d.ensures))

pub loop-done-preserved : goal.loop-done-preserved
loop-done-preserved c =
    let a = c.args in
    spreading_next (of_arcs a.arcs.now) a.arcs.now.n a.v _ _ _ _ c.loop-done.invariant c.loop-done-test.true _ _ c.from-t.ensures (omega (arith, c.from-d.ensures)) _ _ _ c.look_back-count-in-loop-done.ensures

pub returns-else-count-arcs : goal.returns-else-count-arcs
returns-else-count-arcs c =
    let a = c.args in
    spreading_ends (of_arcs a.arcs.now) a.arcs.now.n a.v _ _ _ _ c.loop-done.invariant a.arcs.now.limits.fits (inr (omega arith))

pub returns-after-loop-done : goal.returns-after-loop-done
returns-after-loop-done c =
    let a = c.args in
    spreading_ends (of_arcs a.arcs.now) a.arcs.now.n a.v _ _ _ _ c.loop-done.invariant a.arcs.now.limits.fits (inl (omega arith))
