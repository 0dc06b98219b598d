-- `peel::count_entering` meets its contract: how many remaining rules enter each transition.
-- The loop's invariant: of the rules passed, those that remain are counted.
-- Assumes nothing.
use Rattle.std.proofs.Common.{◌≡◌, length}
use Rattle.columns.specs.Views.{of_arcs}
use Rattle.peel.specs.Peeling.{Tallied}
use Rattle.peel.proofs.count_entering.Given as goal

abbrev pub invariant-loop-r : goal.invariant-loop-r
invariant-loop-r l = record { room : length l.entering ≡ 256; tallied : Tallied (of_arcs l.arcs) l.alive 0 0 l.r l.entering }
