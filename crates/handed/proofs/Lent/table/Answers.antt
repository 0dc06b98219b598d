-- `handed::Lent::table`: one rule more in its place.
use Rattle.std.proofs.Common.{arith, length}
use Rattle.handed.specs.Steps.{stored_min, sized_is, filled_none, filled_next, filled_all}
use Rattle.handed.proofs.Lent.table.Goals as goal

pub loop-r-init : goal.loop-r-init
loop-r-init c = filled_none _ _ _ (sized_is c.args.n (length c.args.self.now.source.now) _ c.empty-t.ensures)

pub loop-r-preserved : goal.loop-r-preserved
loop-r-preserved c = filled_next _ _ _ _ _ c.loop-r.invariant c.rule.ensures

pub returns : goal.returns
returns c = filled_all _ _ _ _ _ (stored_min _ _ c.min-r-end.ensures) (omega arith) c.loop-r.invariant
