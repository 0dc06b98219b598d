-- `search::settle` meets its contract. The loop's invariant: x and par are the values and parents after k passes over all rules, and k < n (`Settling`).
-- The measure is n - k.
-- Assumes nothing.
use Rattle.std.proofs.Common.{◌-◌}
use Rattle.columns.specs.Views.{of_filled, delays_of}
use Rattle.search.specs.Climbing.{Settling}
use Rattle.search.proofs.settle.Given as goal

abbrev pub invariant-loop-at : goal.invariant-loop-at
invariant-loop-at l = Settling (of_filled l.rules) (delays_of l.rules) l.at.p l.at.q l.rules.n l.x l.par l.k

abbrev pub decreases-loop-at : goal.decreases-loop-at
decreases-loop-at l = l.rules.n - l.k
