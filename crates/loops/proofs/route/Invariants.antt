-- `loops::route` meets its contract: the rules followed from v, by their numbers.
-- The loop's invariant: the rules written, and those still to be followed, are the whole walk.
-- Assumes nothing.
use Rattle.std.proofs.Common.{◌<◌, ◌≡◌, length}
use Rattle.loops.specs.Found.{Routed}
use Rattle.loops.proofs.route.Given as goal

abbrev pub invariant-loop-i : goal.invariant-loop-i
invariant-loop-i l = (l.u < 256) × (length l.rules ≡ 256) × Routed l.target l.list l.next l.v l.k l.i l.u l.rules
