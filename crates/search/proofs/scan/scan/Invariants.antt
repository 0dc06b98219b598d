-- `search::scan::scan` meets its contract. The loop's invariant: what the walks from the transitions below `from` leave (`Looked`).
-- Assumes nothing.
use Rattle.columns.specs.Views.{of_filled, delays_of}
use Rattle.search.specs.Scan.{Looked}
use Rattle.search.proofs.scan.scan.Given as goal

abbrev pub invariant-loop-from : goal.invariant-loop-from
invariant-loop-from l =
    Looked (of_filled l.rules) (delays_of l.rules) l.rules.n l.par l.from l.stamp l.delays l.offsets l.best
