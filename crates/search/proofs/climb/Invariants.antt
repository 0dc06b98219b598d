-- `search::climb` meets its contract. The loop's invariant: the climb has come to p/q (`Rising`). The measure is the steps left above p/q.
-- Assumes nothing.
use Rattle.std.proofs.Common.{◌≡◌, true}
use Rattle.model.specs.Loop.{SomeLoop}
use Rattle.columns.specs.Views.{of_filled, delays_of}
use Rattle.search.specs.Climbing.{Rising, left}
use Rattle.search.proofs.climb.Given as goal

abbrev pub invariant-loop-walk : goal.invariant-loop-walk
invariant-loop-walk l =
    Rising (of_filled l.rules) (delays_of l.rules) l.ratio.p l.ratio.q × (l.found ≡ true → SomeLoop (of_filled l.rules))

abbrev pub decreases-loop-walk : goal.decreases-loop-walk
decreases-loop-walk l = left l.ratio.p l.ratio.q
