-- `search::order::leave` meets its contract: it lists rules below m, and the queue stays one of transitions.
-- The loop's invariant: the link is none or that of a rule below m, and the queue is one of transitions. The measure is the number of places left for rules.
-- Assumes nothing.
use Rattle.std.proofs.Common.{◌-◌, ◌≤◌}
use Rattle.search.specs.Order.{Queued}
use Rattle.search.proofs.order.leave.Given as goal

abbrev pub invariant-loop-len : goal.invariant-loop-len
invariant-loop-len l = (l.at ≤ l.rules.m) × Queued l.list l.end

abbrev pub decreases-loop-len : goal.decreases-loop-len
decreases-loop-len l = l.rules.m - l.len
