-- The invariant of the loop in `rows::rows`: the first i rows are made (`Begun`).
-- Assumes nothing.
use Rattle.simulation.specs.Rows.{Begun}
use Rattle.simulation.proofs.rows.rows.Given as goal

abbrev pub invariant-loop-i : goal.invariant-loop-i
invariant-loop-i l = Begun l.groups l.order l.n l.i l.initial.times l.times
