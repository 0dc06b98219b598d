-- The invariant of the loop in `order::order`: the first k places of the order are filled (`Placing`).
-- Assumes nothing.
use Rattle.simulation.specs.Order.{Placing}
use Rattle.simulation.proofs.order.order.Given as goal

abbrev pub invariant-loop-k : goal.invariant-loop-k
invariant-loop-k l = Placing l.groups l.n l.k l.order l.done
