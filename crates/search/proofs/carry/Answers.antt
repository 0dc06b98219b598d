-- Of `search::carry`. Assumes nothing.
use Rattle.std.proofs.Common.{◌≤◌, arith}
use Rattle.search.specs.Climbing.{None, going_start, going_asks, going_on, going_skip, going_carried}
use Rattle.search.proofs.carry.Goals.{then-i-rules, else-i-rules}
use Rattle.search.proofs.carry.Goals as goal

pub loop-rule-init : goal.loop-rule-init
loop-rule-init c = going_start c.requires.1 None (λ r b. b)

pub raise-requires-clause-asks : goal.raise-requires-clause-asks
raise-requires-clause-asks c = going_asks c.requires.1 (omega arith) (omega (arith, c.requires.0)) c.loop-rule.invariant

pub loop-rule-preserved : goal.loop-rule-preserved
loop-rule-preserved c =
    let ready = c.requires.1 in
    let few : c.loop-rule.rule-index ≤ 2048 = omega (arith, c.requires.0) in
    elim c.if-i-rules.branch [
      | then-i-rules w ↦ rw (w.x-is, w.par-is) (going_on ready w.if-i-rules.true few c.loop-rule.invariant w.raise.ensures (λ r n. absurd n))
      | else-i-rules w ↦ rw (w.x-is, w.par-is) (going_skip ready c.loop-rule.invariant)
    ]

pub returns : goal.returns
returns c = going_carried c.requires.1 (omega (arith, c.requires.0)) c.loop-rule.invariant
