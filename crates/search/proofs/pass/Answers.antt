-- Of `search::pass`. Assumes nothing.
use Rattle.std.proofs.Common.{◌≤◌, ◌<◌, arith}
use Rattle.search.specs.Climbing.{Before, before_next, told_start, going_start, going_asks, going_on, told_raise, told_keep, going_end}
use Rattle.search.proofs.pass.Goals.{then-raise, else-raise}
use Rattle.search.proofs.pass.Goals as goal

pub loop-i-init : goal.loop-i-init
loop-i-init c = (going_start c.requires (Before 0) (λ r b. omega arith), told_start)

pub raise-requires-clause-asks : goal.raise-requires-clause-asks
raise-requires-clause-asks c =
    going_asks c.requires (omega arith) (omega (arith, c.requires.query.few_rules)) c.loop-i.invariant.0

pub loop-i-preserved : goal.loop-i-preserved
loop-i-preserved c =
    let i = c.loop-i.i in
    let ready = c.requires in
    let below : i < c.args.rules.now.m = omega arith in
    let few : i ≤ 2048 = omega (arith, ready.query.few_rules) in
    let (going, told) = c.loop-i.invariant in
    let risen = c.raise.ensures in (
      going_on ready below few going risen (before_next i),
      elim c.if-raise.branch [
        | then-raise w ↦ told_raise ready below few going risen w.if-raise.true w.changed-is
        | else-raise w ↦ told_keep ready below few going risen told w.if-raise.false w.changed-is
      ],
    )

pub returns : goal.returns
returns c = going_end c.requires (omega arith) c.loop-i.invariant.0 c.loop-i.invariant.1
