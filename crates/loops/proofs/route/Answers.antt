-- `loops::route` meets its contract.
use Rattle.std.proofs.Common.{refl, ap, get_or, length-set, arith}
use Rattle.loops.specs.Found.{route_step, route_ends}
use Rattle.loops.proofs.route.Goals as goal

pub loop-i-preserved : goal.loop-i-preserved
loop-i-preserved c =
    let s = c.args in
    let j = c.from-j.ensures in (
      omega (arith, c.requires.ready.steps c.loop-i.u c.loop-i.invariant.0, ap (λ x. get_or s.target.now x 0) j),
      simp length-set c.loop-i.invariant.1,
      route_step s.target.now s.list.now s.next.now s.v s.k c.loop-i.i c.loop-i.u c.loop-i.rules _ _ _ c.loop-i.invariant.2 c.loop-i-test.true (omega (arith, c.requires.ready.short)) j refl c.from-u.ensures,
    )

pub returns : goal.returns
returns c =
    let a = c.args in
    route_ends a.target.now a.list.now a.next.now a.v a.k c.loop-i.i c.loop-i.u c.loop-i.rules c.loop-i.invariant.2 (omega arith)
