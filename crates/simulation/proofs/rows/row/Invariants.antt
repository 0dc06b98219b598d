-- The invariant of the loop in `rows::row`: k times of the row are written and right (`Going`).
-- Assumes nothing.
use Rattle.simulation.specs.Rows.{Going}
use Rattle.simulation.proofs.rows.row.Given as goal

abbrev pub invariant-loop-k : goal.invariant-loop-k
invariant-loop-k l = Going l.groups l.order l.n l.i l.k l.initial.times l.times
