-- `loops::ways` meets its contract.
use Rattle.std.proofs.Common.{◌≡◌, ◌+◌, ◌-◌, get_or, arith}
use Rattle.columns.specs.Views.{of_arcs}
use Rattle.distances.specs.Near.{away_most}
use Rattle.loops.specs.Ways.{ways_none, ways_led, ways_passed}
use Rattle.loops.proofs.ways.Goals as goal

pub loop-j-init : goal.loop-j-init
loop-j-init c = let a = c.args in ways_none (of_arcs a.arcs.now) a.v a.dist.now

pub overflow_add-away : goal.overflow_add-away
overflow_add-away c = let t = c.from-t.result in omega (arith, c.requires t, away_most c.args.v t (get_or c.args.dist.now t 0))

pub loop-j-preserved : goal.loop-j-preserved
loop-j-preserved c =
    let a = c.args in
    let last : c.loop-j.j ≡ (c.loop-j.j - 1) + 1 = omega arith in
    ways_passed (of_arcs a.arcs.now) a.v a.dist.now _ _ _ c.loop-j.next (rw last at c.loop-j.invariant) (omega arith) c.from-s.ensures c.from-t.ensures (λ e. omega (arith, c.if-away-from.false))

pub loop-j-preserved-then-away-from : goal.loop-j-preserved-then-away-from
loop-j-preserved-then-away-from c =
    let a = c.args in
    let last : c.loop-j.j ≡ (c.loop-j.j - 1) + 1 = omega arith in
    ways_led (of_arcs a.arcs.now) a.v a.dist.now _ _ _ c.loop-j.next (rw last at c.loop-j.invariant) (omega arith) c.from-s.ensures c.from-t.ensures (omega (arith, a.arcs.now.limits.fits (c.loop-j.j - 1), a.arcs.now.limits.few_transitions)) (omega (arith, c.if-away-from.true))
