-- `search::order::link` meets its contract: every link is that of a rule below m.
-- The loop's invariant: so it is, and no transition waits for more rules than were looked at.
-- Assumes nothing.
use Rattle.std.proofs.Common.{◌-◌}
use Rattle.search.specs.Order.{Most}
use Rattle.search.proofs.order.link.Given as goal

abbrev pub invariant-loop-r : goal.invariant-loop-r
invariant-loop-r l = Most l.first l.rules.m × Most l.next l.rules.m × Most l.waits (l.rules.m - l.r)
