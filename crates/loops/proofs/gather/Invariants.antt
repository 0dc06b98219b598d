-- `loops::gather` meets its contract: the column of the listed rules.
-- The loop's invariant: the places written so far hold the column's entries.
-- Assumes nothing.
use Rattle.std.proofs.Common.{◌≡◌, length}
use Rattle.loops.specs.Listed.{Gathered}
use Rattle.loops.proofs.gather.Given as goal

abbrev pub invariant-loop-j : goal.invariant-loop-j
invariant-loop-j l = (length l.picked ≡ 2048) × Gathered l.column l.list l.j l.picked
