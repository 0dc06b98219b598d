-- `distances::near` meets its contract: the least number of rules from each transition to v.
-- The loop's invariant: the rules into v and into those before `done` in the queue were looked at. The measure is the number of places left in the queue.
-- Assumes nothing.
use Rattle.std.proofs.Common.{◌-◌}
use Rattle.columns.specs.Views.{of_arcs}
use Rattle.distances.specs.Queue.{Spreading}
use Rattle.distances.proofs.near.Given as goal

abbrev pub invariant-loop-done : goal.invariant-loop-done
invariant-loop-done l = Spreading (of_arcs l.arcs) l.arcs.n l.v l.dist l.order l.done l.count

abbrev pub decreases-loop-done : goal.decreases-loop-done
decreases-loop-done l = 256 - l.done
