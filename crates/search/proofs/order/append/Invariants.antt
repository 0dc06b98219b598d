-- `order::append` meets its contract. The loop's invariant: what is listed has room.
-- Assumes nothing.
use Rattle.std.proofs.Common.{◌≤◌}
use Rattle.search.proofs.order.append.Given as goal

abbrev pub invariant-loop-rule : goal.invariant-loop-rule
invariant-loop-rule l = l.end ≤ 2048
