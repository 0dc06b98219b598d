-- `search::order::ready` meets its contract: only transitions are written, and at most one for each that was looked at.
-- The loop's invariant says so of those looked at.
-- Assumes nothing.
use Rattle.std.proofs.Common.{◌≤◌}
use Rattle.search.specs.Order.{Most}
use Rattle.search.proofs.order.ready.Given as goal

abbrev pub invariant-loop-v : goal.invariant-loop-v
invariant-loop-v l = (l.end ≤ l.v) × Most l.list 255
