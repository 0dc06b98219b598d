-- The invariant of the loop in `order::next`: every transition below v is done or blocked.
-- Assumes nothing.
use Rattle.simulation.specs.Order.{Stuck}
use Rattle.simulation.proofs.order.next.Given as goal

abbrev pub invariant-loop-v : goal.invariant-loop-v
invariant-loop-v l = Stuck l.groups l.done l.v
