-- `rulefile::file_length` meets its contract. The loop's invariant: the count and the bytes of the rules to come are the file's length.
-- Assumes nothing.
use Rattle.std.proofs.Common.{◌+◌, ◌-◌, ◌≡◌, length}
use Rattle.rulefile.specs.File.{rules_bytes, file_of}
use Rattle.rulefile.proofs.file_length.Given as goal

abbrev pub invariant-loop-r : goal.invariant-loop-r
invariant-loop-r l = l.count + length (rules_bytes l.t l.r (l.t.m - l.r)) ≡ length (file_of l.t)
