-- Of `above::start`. Assumes nothing.
use Rattle.std.proofs.Common.{◌<◌, arith}
use Rattle.search.specs.Climbing.{walk_of}
use Rattle.search.specs.Above.{bidding_start, bidding_skip, bidding_bids, bidding_on}
use Rattle.search.proofs.above.start.Goals.{then-i-rules, else-i-rules}
use Rattle.search.proofs.above.start.Goals as goal

pub loop-rule-init : goal.loop-rule-init
loop-rule-init c = bidding_start

pub bid-requires : goal.bid-requires
bid-requires c =
    bidding_bids c.args.rules.now.delay.now c.args.rules.now.limits c.args.rules.now.short (omega arith) (omega (arith, c.args.rules.now.limits.few_rules)) c.loop-rule.invariant

pub loop-rule-preserved : goal.loop-rule-preserved
loop-rule-preserved c =
    let limits = c.args.rules.now.limits in
    let few : c.loop-rule.rule-index < 2048 = omega (arith, limits.few_rules) in
    elim c.if-i-rules.branch [
      | then-i-rules w ↦ rw (w.most-is, w.par-is) (bidding_on c.args.rules.now.delay.now limits c.args.rules.now.short w.if-i-rules.true few c.loop-rule.invariant w.bid.ensures)
      | else-i-rules w ↦ rw (w.most-is, w.par-is) (bidding_skip c.loop-rule.invariant)
    ]

pub returns : goal.returns
returns c = λ w t. walk_of (c.scan-met.ensures.some w t)
