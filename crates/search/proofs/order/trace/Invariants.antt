-- `order::trace` meets its contract. The loop's invariant: v is a transition.
-- Assumes nothing.
use Rattle.std.proofs.Common.{◌<◌}
use Rattle.search.proofs.order.trace.Given as goal

abbrev pub invariant-loop-k : goal.invariant-loop-k
invariant-loop-k l = l.v < 256
