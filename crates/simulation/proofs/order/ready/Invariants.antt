-- The invariant of the loop in `order::ready`: no rule before place j is blocked.
-- Assumes nothing.
use Rattle.std.proofs.Common.{get_or}
use Rattle.simulation.specs.Order.{Clear}
use Rattle.simulation.proofs.order.ready.Given as goal

abbrev pub invariant-loop-j : goal.invariant-loop-j
invariant-loop-j l = Clear l.groups (get_or l.groups.first l.v 0) l.j l.done
