-- `order::roots_first` meets its contract. The loop's invariant: what is listed has room.
-- Assumes nothing.
use Rattle.std.proofs.Common.{◌≤◌}
use Rattle.search.proofs.order.roots_first.Given as goal

abbrev pub invariant-loop-v : goal.invariant-loop-v
invariant-loop-v l = l.list.len ≤ 2048
