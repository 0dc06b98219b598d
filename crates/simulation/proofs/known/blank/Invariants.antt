-- The invariant of the loop in `known::blank`: no rule before r has an unknown delay.
-- Assumes nothing.
use Rattle.simulation.specs.Blanks.{KnownTo}
use Rattle.simulation.proofs.known.blank.Given as goal

abbrev pub invariant-loop-r : goal.invariant-loop-r
invariant-loop-r l = KnownTo l.t l.r
