-- `peel::strike_unentered` meets its contract: transitions are struck that no remaining rule enters, until there is none.
-- The loop's invariant: those before `done` were struck, the others wait, and rules are counted. The measure is the number of transitions not struck.
-- Assumes nothing.
use Rattle.std.proofs.Common.{◌-◌}
use Rattle.columns.specs.Views.{of_arcs}
use Rattle.peel.specs.Peeling.{Striking}
use Rattle.peel.proofs.strike_unentered.Given as goal

abbrev pub invariant-loop-done : goal.invariant-loop-done
invariant-loop-done l = Striking (of_arcs l.arcs) l.arcs.n l.initial.alive l.alive l.entering l.order l.done l.count

abbrev pub decreases-loop-done : goal.decreases-loop-done
decreases-loop-done l = l.arcs.n - l.done
