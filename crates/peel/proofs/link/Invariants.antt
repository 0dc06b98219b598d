-- `peel::link` meets its contract: the rules at each transition, linked from the last to the first.
-- The loop's invariant: the rules passed are linked.
-- Assumes nothing.
use Rattle.peel.specs.Linked.{Linked, NoneAlike}
use Rattle.peel.proofs.link.Given as goal

abbrev pub invariant-loop-r : goal.invariant-loop-r
invariant-loop-r l = Linked NoneAlike l.column l.r l.head l.next
