-- `peel::peel` meets its contract: the remnant, after those that no remaining rule enters and those that none leaves.
-- Assumes nothing.
use Rattle.std.proofs.Common.{arith}
use Rattle.peel.specs.Plain.{plain}
use Rattle.peel.specs.Linked.{row_none}
use Rattle.peel.specs.Peeling.{Stripped, peeled_once, peeled_twice}
use Rattle.peel.proofs.peel.Goals as goal

pub strike_unentered-first-requires : goal.strike_unentered-first-requires
strike_unentered-first-requires c = row_none _ c.args.arcs.now.limits.some_transition

pub returns-then-arcs-first : goal.returns-then-arcs-first
returns-then-arcs-first c =
    let a = c.args.arcs.now in
    peeled_once a.source.now a.target.now a.m a.n a.limits _ _ _ c.strike_unentered-first.ensures c.if-arcs-first.true

pub strike_unentered-second-requires : goal.strike_unentered-second-requires
strike_unentered-second-requires c = row_none _ c.back.result.limits.some_transition

-- the rules turned round, struck
turned : (c : goal.After-strike_unentered-second) → Stripped (plain c.args.arcs.now.target.now c.args.arcs.now.source.now c.args.arcs.now.m) c.args.arcs.now.n c.strike_unentered-first.new.alive c.strike_unentered-second.new.alive c.strike_unentered-second.new.order c.strike_unentered-second.result
turned c = let b = c.back.ensures in rw (b.0, b.1, b.2, b.3) at c.strike_unentered-second.ensures

pub overflow_add-result : goal.overflow_add-result
overflow_add-result c =
    let a = c.args.arcs.now in
    omega (arith, a.limits.few_transitions, (peeled_twice a.source.now a.target.now a.m a.n a.limits _ _ _ c.strike_unentered-first.ensures _ _ _ (turned c)).counted)

pub returns : goal.returns
returns c =
    let a = c.args.arcs.now in
    peeled_twice a.source.now a.target.now a.m a.n a.limits _ _ _ c.strike_unentered-first.ensures _ _ _ (turned c)
