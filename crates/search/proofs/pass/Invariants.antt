-- `search::pass` meets its contract. The loop's invariant: the pass is before rule i (`Going`), and has told what rose (`Told`).
-- Assumes nothing.
use Rattle.columns.specs.Views.{of_filled, delays_of}
use Rattle.search.specs.Climbing.{Before, Going, Told}
use Rattle.search.proofs.pass.Given as goal

abbrev pub invariant-loop-i : goal.invariant-loop-i
invariant-loop-i l =
    Going (of_filled l.rules) (delays_of l.rules) l.at.p l.at.q l.initial.x l.initial.par l.x l.par (Before l.i) l.i
    × Told (of_filled l.rules) l.initial.x l.x l.changed
