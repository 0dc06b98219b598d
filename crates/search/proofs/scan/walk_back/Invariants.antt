-- `search::scan::walk_back` meets its contract. The loop's invariant: from the transition where the walk is, parents lead to each that has the walk's
-- number, and their sums make up the difference to those left there. The measure is the count of transitions without a number. Assumes nothing.
use Rattle.columns.specs.Views.{of_filled, delays_of}
use Rattle.search.specs.Scan.{Walking, unstamped}
use Rattle.search.proofs.scan.walk_back.Given as goal

abbrev pub invariant-loop-stamp : goal.invariant-loop-stamp
invariant-loop-stamp l =
    Walking (of_filled l.rules) (delays_of l.rules) l.rules.n l.par l.from l.number l.initial.stamp l.stamp l.delays l.offsets l.v l.a l.e

abbrev pub decreases-loop-stamp : goal.decreases-loop-stamp
decreases-loop-stamp l =
    unstamped l.stamp l.rules.n
