-- Each rule is laid by `laid_next`, and its fields are within their limits.
use Rattle.std.proofs.Common.{◌≡◌, refl, ◌∙◌, arith}
use Rattle.table.specs.Form.{rule_of}
use Rattle.columns.specs.Lay.{laid_start, laid_next, ordered, greatest_short}
use Rattle.columns.proofs.lay.Goals as goal

pub loop-r-init : goal.loop-r-init
loop-r-init c =
    let k = c.none-c.ensures.columns in
    let z = c.none-c.ensures.sized in
    (z.1, z.2, rw (k.0, k.1, k.2, k.3, k.4, z.0) (laid_start c.args.t))

pub put-requires-clause-room : goal.put-requires-clause-room
put-requires-clause-room c = omega (arith, c.requires.m_high)

pub put-requires-clause-fits : goal.put-requires-clause-fits
put-requires-clause-fits c =
    let r = c.loop-r.r in
    let w = c.requires.rule r c.loop-r-test.true in
    let d = (rule_of c.args.t r).delay in
    let same : c.loop-r.c.n ≡ c.args.t.n = c.loop-r.invariant.1 in (
      omega (arith, w.source, same, c.laid.ensures.ends),
      omega (arith, w.target, same, c.laid.ensures.ends),
      omega (arith, w.offset, c.laid.ensures.ends),
      omega (arith, ordered d, c.laid.ensures.delays),
      omega (arith, greatest_short d w.delay, c.laid.ensures.delays),
    )

pub loop-r-preserved : goal.loop-r-preserved
loop-r-preserved c =
    let p = c.put.ensures in
    let i = c.loop-r.invariant in
    let next = laid_next c.args.t c.loop-r.r _ _ _ _ _ c.loop-r.c.blank c.put.new.self.blank _ _ _ _ _ i.2 (omega (arith, c.requires.m_high)) c.laid.ensures.ends c.laid.ensures.delays p.no_blank in
    (p.sized.0 ∙ (rw i.0 refl), p.sized.1 ∙ i.1, rw (p.ends.0, p.ends.1, p.ends.2, p.delays.0, p.delays.1, i.0) next)
