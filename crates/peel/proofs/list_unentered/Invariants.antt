-- `peel::list_unentered` meets its contract: the transitions that no remaining rule enters wait.
-- The loop's invariant: so it is of the transitions passed.
-- Assumes nothing.
use Rattle.peel.specs.Linked.{Row}
use Rattle.peel.specs.Peeling.{Waiting}
use Rattle.peel.proofs.list_unentered.Given as goal

abbrev pub invariant-loop-v : goal.invariant-loop-v
invariant-loop-v l = record { row : Row l.n l.order; waiting : Waiting l.v l.alive l.entering l.order 0 l.count }
