-- `rulefile::rules_from` meets its contract. The loop's invariant: reading what is left, into the table as it stands, gives the answer that the whole gives.
-- Assumes nothing.
use Rattle.std.proofs.Common.{◌-◌, ◌≤◌, ◌≡◌, length}
use Rattle.rulefile.specs.File.{rules_from_of}
use Rattle.rulefile.proofs.rules_from.Given as goal

abbrev pub invariant-loop-r : goal.invariant-loop-r
invariant-loop-r l =
    (l.r-end ≡ l.initial.table.m) × (l.at ≤ length l.bytes) × (rules_from_of l.bytes l.n l.initial.table l.from 0 l.r-end ≡ rules_from_of l.bytes l.n l.table l.at l.r (l.r-end - l.r))
