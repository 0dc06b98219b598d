-- `search::carry` meets its contract. The loop's invariant: as many rules of the list as were come to have asked (`Going`).
-- Assumes nothing.
use Rattle.columns.specs.Views.{of_filled, delays_of}
use Rattle.search.specs.Climbing.{None, Going}
use Rattle.search.proofs.carry.Given as goal

abbrev pub invariant-loop-rule : goal.invariant-loop-rule
invariant-loop-rule l =
    Going (of_filled l.rules) (delays_of l.rules) l.at.p l.at.q l.initial.x l.initial.par l.x l.par None l.rule-index
