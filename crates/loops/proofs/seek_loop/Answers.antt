-- `loops::seek_loop` meets its contract.
use Rattle.std.proofs.Common.{◌<◌, length, get_or, arith}
use Rattle.columns.specs.Views.{of_arcs}
use Rattle.loops.specs.Found.{none_struck, none_far, ready, ready_named, found_here, found_none}
use Rattle.loops.proofs.seek_loop.Goals as goal
use Rattle.loops.proofs.seek_loop.Goals.{then-alive-at-eq1+else-k-lt-FAR, else-alive-at-eq1}

pub route-rules-requires : goal.route-rules-requires
route-rules-requires c =
    let a = c.args in
    let near = c.near-back.ensures in
    let k = c.from-k.ensures in
    let found : get_or c.near-back.result.dist c.loop-at.at 0 < 512 = omega (arith, k, c.if-k-lt-FAR.true) in
    record {
      ready = rw k (ready a.arcs.now.source.now a.arcs.now.target.now a.arcs.now.m a.arcs.now.n _ _ _ a.arcs.now.limits c.loop-at-test.true near.near near.settled c.ways-next.ensures found);
      named = rw c.requires.named (ready_named a.arcs.now.source.now a.arcs.now.target.now a.arcs.now.m a.arcs.now.n _ _ _ a.arcs.now.limits c.loop-at-test.true near.near near.settled c.ways-next.ensures found);
    }

pub returns-then-k-lt-FAR : goal.returns-then-k-lt-FAR
returns-then-k-lt-FAR c =
    let a = c.args in
    let near = c.near-back.ensures in
    let k = c.from-k.ensures in
    rw k (found_here a.arcs.now.source.now a.arcs.now.target.now a.arcs.now.m a.arcs.now.n _ _ _ a.arcs.now.limits c.loop-at-test.true near.near near.settled c.ways-next.ensures (omega (arith, k, c.if-k-lt-FAR.true)) a.list.now _ c.loop-at.invariant (rw k at c.route-rules.ensures))

pub loop-at-preserved : goal.loop-at-preserved
loop-at-preserved c =
    let a = c.args in
    let T = of_arcs a.arcs.now in
    elim c.if-alive-at-eq1.branch [
      | then-alive-at-eq1+else-k-lt-FAR w ↦ none_far T c.loop-at.at c.loop-at.invariant a.arcs.now.n w.near-back.result.dist a.arcs.now.limits.fits a.arcs.now.limits.few_transitions w.near-back.ensures.settled (omega (arith, w.if-k-lt-FAR.false))
      | else-alive-at-eq1 w ↦ none_struck T c.loop-at.at c.loop-at.invariant a.alive.now c.requires.stays (λ e. omega (arith, w.if-alive-at-eq1.false))
    ]

pub returns : goal.returns
returns c =
    let a = c.args in
    found_none a.arcs.now.source.now a.arcs.now.target.now a.list.now a.arcs.now.m a.arcs.now.n c.loop-at.at _ a.arcs.now.limits c.loop-at.invariant c.loop-at-test.false
