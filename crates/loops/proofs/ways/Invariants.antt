-- `loops::ways` meets its contract: at each transition the lowest rule that comes one nearer.
-- The loop goes down; its invariant: so it is of the rules looked at, those from j on.
-- Assumes nothing.
use Rattle.columns.specs.Views.{of_arcs}
use Rattle.loops.specs.Ways.{Ways}
use Rattle.loops.proofs.ways.Given as goal

abbrev pub invariant-loop-j : goal.invariant-loop-j
invariant-loop-j l = Ways (of_arcs l.arcs) l.v l.dist l.j l.next
