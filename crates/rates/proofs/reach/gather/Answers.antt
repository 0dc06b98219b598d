-- One rule more: it is within its limits, and is put, and counts where it is near.
use Rattle.std.proofs.Common.{◌≡◌, ◌∙◌, arith}
use Rattle.rates.specs.Reach.{taken_none, taken_next}
use Rattle.rates.proofs.reach.gather.Goals as goal

pub loop-r-init : goal.loop-r-init
loop-r-init c =
    let C = c.args.c.now in
    let k = c.none-kept.ensures.columns in
    let z = c.none-kept.ensures.sized in
    (z.2, rw (k.0, k.1, k.2, k.3, k.4, z.1) (taken_none C.source C.target C.offset C.least C.greatest c.args.v c.args.dist.now))

pub put-requires-clause-room : goal.put-requires-clause-room
put-requires-clause-room c = omega (arith, c.loop-r.invariant.1.listed.few, c.args.c.now.limits.few_rules)

pub put-requires-clause-fits : goal.put-requires-clause-fits
put-requires-clause-fits c =
    let C = c.args.c.now in
    let r = c.loop-r.r in
    let b = c.loop-r-test.true in
    let e = c.row.ensures.ends in
    let d = c.row.ensures.delays in
    let f = C.limits.fits r b in
    let same : c.loop-r.kept.n ≡ C.n = c.loop-r.invariant.0 in (
      omega (arith, f, same, e),
      omega (arith, f, same, e),
      omega (arith, C.limits.small_offsets r b, e),
      omega (arith, C.ordered.in_order r b, d),
      omega (arith, C.ordered.short_greatest r b, d),
    )

pub loop-r-preserved : goal.loop-r-preserved
loop-r-preserved c =
    let C = c.args.c.now in
    let p = c.put.ensures in
    let e = c.row.ensures.ends in
    let d = c.row.ensures.delays in
    let next = taken_next C.source C.target C.offset C.least C.greatest c.args.v c.args.dist.now c.loop-r.r _ _ _ _ _ _ c.loop-r.invariant.1 (omega (arith, C.limits.few_rules)) _ _ c.from-t.ensures c.counts.ensures in
    (p.sized.1 ∙ c.loop-r.invariant.0, rw (p.ends.0, p.ends.1, p.ends.2, p.delays.0, p.delays.1, p.sized.0, e.0, e.1, e.2, d.0, d.1) next)

pub returns : goal.returns
returns c =
    let done : c.loop-r.r ≡ c.args.c.now.m = omega arith in
    rw done at c.loop-r.invariant.1
