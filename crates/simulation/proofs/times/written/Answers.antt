-- `times::written` meets its contract: groups, order and rows in turn.
-- Assumes nothing.
use Rattle.simulation.specs.Whole.{groups_bounded, groups_ranked, groups_plan, rows_timed}
use Rattle.simulation.proofs.times.written.Goals as goal

pub order-order-requires-clause-bounded : goal.order-order-requires-clause-bounded
order-order-requires-clause-bounded c = let (_, g, r) = c.of-groups.ensures in groups_bounded _ _ _ _ _ _ c.args.rules.now.limits _ _ g r

pub order-order-requires-clause-ranked : goal.order-order-requires-clause-ranked
order-order-requires-clause-ranked c = let (_, g, r) = c.of-groups.ensures in groups_ranked _ _ _ _ _ _ c.args.rules.now.limits _ _ g r c.requires.live

pub rows-requires-clause-plan : goal.rows-requires-clause-plan
rows-requires-clause-plan c =
    let (_, g, r) = c.of-groups.ensures in groups_plan _ _ _ _ _ _ c.args.rules.now.limits _ _ g r c.args.rules.now.short _ c.order-order.ensures

pub returns : goal.returns
returns c =
    let (_, g, r) = c.of-groups.ensures in
    rows_timed _ _ _ _ _ _ c.args.rules.now.limits _ _ g r c.args.rules.now.short _ _ _ _ c.rows.ensures
