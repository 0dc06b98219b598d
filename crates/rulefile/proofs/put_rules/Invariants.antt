-- `rulefile::put_rules` meets its contract. The loop's invariant: writing the rules to come, into the buffer as it stands, gives the buffer that the whole gives.
-- Assumes nothing.
use Rattle.std.proofs.Common.{◌+◌, ◌-◌, ◌≤◌, ◌≡◌, length}
use lib.Seq.{sets}
use Rattle.rulefile.specs.File.{rules_bytes}
use Rattle.rulefile.proofs.put_rules.Given as goal

abbrev pub invariant-loop-r : goal.invariant-loop-r
invariant-loop-r l =
    (sets l.initial.out l.from (rules_bytes l.t 0 l.t.m) ≡ sets l.out l.at (rules_bytes l.t l.r (l.t.m - l.r)))
    × (l.at + length (rules_bytes l.t l.r (l.t.m - l.r)) ≤ length l.out) × (length l.out ≡ length l.initial.out)
