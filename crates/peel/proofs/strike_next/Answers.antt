-- `peel::strike_next` meets its contract.
use Rattle.std.proofs.Common.{refl, arith}
use Rattle.peel.specs.Linked.{points_most}
use Rattle.peel.specs.Peeling.{spread_starts, spread_points, spread_ready, spread_less, spread_past, spread_ends}
use Rattle.peel.proofs.strike_next.Goals as goal
use Rattle.peel.proofs.strike_next.Goals.{then-alive-w-eq1, else-alive-w-eq1}

pub loop-left-init : goal.loop-left-init
loop-left-init c =
    let a = c.args in
    let t = spread_starts a.arcs.now.source.now a.arcs.now.target.now a.arcs.now.m a.arcs.now.n a.arcs.now.limits a.head.now a.next.now c.requires.linked _ _ _ _ _ _ _ c.requires.spread c.requires.waits c.from-v.ensures c.from-left.ensures in
    record { spread = t.0; points = t.2; struck = t.1; rule = points_most _ _ _ _ t.2 }

pub one_less-waiting-requires : goal.one_less-waiting-requires
one_less-waiting-requires c =
    let a = c.args in
    let h = c.loop-left.invariant in
    spread_ready a.arcs.now.source.now a.arcs.now.target.now a.arcs.now.m a.arcs.now.n a.arcs.now.limits a.head.now a.next.now c.requires.linked _ _ _ _ _ _ _ h.spread h.struck h.points c.loop-left-test.true _ c.from-w.ensures c.if-alive-w-eq1.true

pub loop-left-smaller : goal.loop-left-smaller
loop-left-smaller c =
    let a = c.args in
    let h = c.loop-left.invariant in
    (spread_points a.arcs.now.source.now a.arcs.now.target.now a.arcs.now.m a.arcs.now.n a.arcs.now.limits a.head.now a.next.now c.requires.linked _ _ _ _ _ _ _ h.spread h.struck h.points c.loop-left-test.true _ _ c.from-w.ensures c.from-left-in-loop-left.ensures).0

pub loop-left-preserved : goal.loop-left-preserved
loop-left-preserved c =
    let a = c.args in
    let h = c.loop-left.invariant in
    let to = c.from-w.ensures in
    let next = c.from-left-in-loop-left.ensures in
    let on = spread_points a.arcs.now.source.now a.arcs.now.target.now a.arcs.now.m a.arcs.now.n a.arcs.now.limits a.head.now a.next.now c.requires.linked _ _ _ _ _ _ _ h.spread h.struck h.points c.loop-left-test.true _ _ to next in
    record {
      spread = elim c.if-alive-w-eq1.branch [
        | then-alive-w-eq1 w ↦ rw (w.entering-is, w.order-is, w.waiting-is) (spread_less a.arcs.now.source.now a.arcs.now.target.now a.arcs.now.m a.arcs.now.n a.arcs.now.limits a.head.now a.next.now c.requires.linked _ _ _ _ _ _ _ h.spread h.struck h.points c.loop-left-test.true _ _ to next w.if-alive-w-eq1.true _ _ _ w.one_less-waiting.ensures)
        | else-alive-w-eq1 w ↦ rw (w.entering-is, w.order-is, w.waiting-is) (spread_past a.arcs.now.source.now a.arcs.now.target.now a.arcs.now.m a.arcs.now.n a.arcs.now.limits a.head.now a.next.now c.requires.linked _ _ _ _ _ _ _ h.spread h.struck h.points c.loop-left-test.true _ _ to next (λ e. omega (arith, w.if-alive-w-eq1.false)))
      ];
      points = on.1;
      struck = h.struck;
      rule = omega (arith, on.0);
    }

pub returns : goal.returns
returns c = spread_ends _ _ _ _ _ _ _ _ _ _ _ c.loop-left.invariant.spread (omega arith) c.from-v.ensures refl
