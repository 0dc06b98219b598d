-- `search::order::order` is safe and ends.
-- The loop's invariant: the links are those of rules, and the queue is one of transitions. The measure is the number of its places left.
-- Assumes nothing.
use Rattle.std.proofs.Common.{◌-◌}
use Rattle.search.specs.Order.{Most, Queued}
use Rattle.search.proofs.order.order.Given as goal

abbrev pub invariant-loop-at : goal.invariant-loop-at
invariant-loop-at l = Most l.links.first l.rules.m × Most l.links.next l.rules.m × Queued l.queue.list l.counts.end

abbrev pub decreases-loop-at : goal.decreases-loop-at
decreases-loop-at l = 256 - l.at
