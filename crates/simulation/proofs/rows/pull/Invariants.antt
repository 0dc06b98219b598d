-- The invariant of the loop in `rows::pull`: best is the largest time that the places before j ask for.
-- Assumes nothing.
use Rattle.std.proofs.Common.{get_or}
use Rattle.simulation.specs.Rows.{Pulled}
use Rattle.simulation.proofs.rows.pull.Given as goal

abbrev pub invariant-loop-j : goal.invariant-loop-j
invariant-loop-j l = Pulled l.groups (get_or l.groups.first l.v 0) l.j l.n l.i l.times l.best
