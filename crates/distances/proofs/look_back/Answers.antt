-- `distances::look_back` meets its contract.
use Rattle.std.proofs.Common.{◌-◌, arith}
use Rattle.columns.specs.Views.{of_arcs}
use Rattle.peel.specs.Linked.{Points, points_most, points_first, points_last, points_rule, points_next, points_all}
use Rattle.distances.specs.Queue.{looking_starts, looking_next, looking_full}
use Rattle.distances.proofs.look_back.Goals as goal

pub loop-left-init : goal.loop-left-init
loop-left-init c =
    let a = c.args in
    let e = c.from-left.ensures in
    let on : Points a.arcs.now.target.now a.arcs.now.m a.t c.from-left.result = rw e (points_first a.arcs.now.target.now a.arcs.now.m a.head.now a.next.now c.requires.linked.0 a.t) in
    record {
      looking = looking_starts (of_arcs a.arcs.now) a.arcs.now.n a.v a.t a.d _ _ _ c.requires.searching _ (λ r b m. omega (arith, e, points_last a.arcs.now.target.now a.arcs.now.m a.head.now a.next.now c.requires.linked.0 a.t r b m));
      points = on;
      rule = points_most _ _ _ _ on;
    }

pub loop-left-smaller : goal.loop-left-smaller
loop-left-smaller c =
    let a = c.args in
    let h = c.loop-left.invariant in
    omega (arith, points_next a.arcs.now.target.now a.arcs.now.m a.head.now a.next.now c.requires.linked.0 a.t c.loop-left.left h.points c.loop-left-test.true _ c.from-left-in-loop-left.ensures)

pub loop-left-preserved : goal.loop-left-preserved
loop-left-preserved c =
    let a = c.args in
    let h = c.loop-left.invariant in
    let left = c.loop-left.left in
    let more = c.loop-left-test.true in
    let before = c.from-left-in-loop-left.ensures in
    let rule = points_rule a.arcs.now.target.now a.arcs.now.m a.head.now a.next.now c.requires.linked.0 a.t left h.points more in
    let on = points_next a.arcs.now.target.now a.arcs.now.m a.head.now a.next.now c.requires.linked.0 a.t left h.points more _ before in
    record {
      looking = looking_next (of_arcs a.arcs.now) a.arcs.now.n a.v a.t a.d _ _ _ c.requires.searching _ _ _ left (left - 1) _ _ h.looking c.if-found-arcs.true rule.0 rule.1 c.from.ensures (omega (arith, c.from.ensures, a.arcs.now.limits.fits (left - 1) rule.0)) (points_all a.arcs.now.target.now a.arcs.now.m a.head.now a.next.now c.requires.linked.0 a.t left h.points more _ before) (omega arith) _ _ _ c.note-found.ensures;
      points = on.1;
      rule = omega (arith, on.0);
    }

pub returns-else-found-arcs : goal.returns-else-found-arcs
returns-else-found-arcs c =
    let a = c.args in
    looking_full (of_arcs a.arcs.now) a.arcs.now.n a.v a.t a.d _ _ _ c.requires.searching a.arcs.now.limits.fits _ _ _ _ c.loop-left.invariant.looking c.if-found-arcs.false
