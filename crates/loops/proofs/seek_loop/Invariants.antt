-- `loops::seek_loop` meets its contract: the first loop of the gathered rules.
-- The loop's invariant: no loop starts at a transition tried before.
-- Assumes nothing.
use Rattle.std.proofs.Common.{length}
use Rattle.columns.specs.Views.{of_arcs}
use Rattle.loops.specs.Found.{NoneBelow}
use Rattle.loops.proofs.seek_loop.Given as goal

abbrev pub invariant-loop-at : goal.invariant-loop-at
invariant-loop-at l = NoneBelow (of_arcs l.arcs) l.at
