-- `sevens::put` meets its contract.
-- Invariant: writing what is left from i on leaves the buffer that writing all of v leaves; there is room for it.
-- The measure is what is left of v. Assumes nothing.
use Rattle.std.proofs.Common.{◌+◌, ◌≤◌, ◌≡◌, length}
use lib.Seq.{sets}
use Rattle.sevens.specs.Sevens.{code_of, code_length_of}
use Rattle.sevens.proofs.put.Given as goal

abbrev pub invariant-loop-left : goal.invariant-loop-left
invariant-loop-left l =
    (length l.out ≡ length l.initial.out) × (l.count ≡ code_length_of l.v) × (l.at + l.count ≤ length l.initial.out) × (l.i + code_length_of l.left ≡ l.at + l.count)
    × (sets l.initial.out l.at (code_of l.v) ≡ sets l.out l.i (code_of l.left))

abbrev pub decreases-loop-left : goal.decreases-loop-left
decreases-loop-left l = l.left
