-- `distances::link_back` meets its contract.
use Rattle.std.proofs.Common.{refl, arith}
use Rattle.peel.specs.Linked.{linked_none}
use Rattle.distances.specs.Links.{linked_back}
use Rattle.distances.proofs.link_back.Goals as goal

pub loop-r-init : goal.loop-r-init
loop-r-init c = rw (c.requires.2, c.requires.3) (linked_none c.args.target.now)

pub loop-r-preserved : goal.loop-r-preserved
loop-r-preserved c =
    linked_back c.args.source.now c.args.target.now c.loop-r.r c.loop-r.head c.loop-r.next c.loop-r.invariant (omega arith) _ _ _ c.from-v.ensures (omega (arith, c.from-v.ensures, c.requires.1 c.loop-r.r c.loop-r-test.true)) refl c.before_rule.ensures
