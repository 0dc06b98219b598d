-- `sevens::code_length` meets its contract.
-- Invariant: the groups counted and those of what is left are those of v and one more.
-- The measure is what is left of v. Assumes nothing.
use Rattle.std.proofs.Common.{◌+◌, ◌≤◌, ◌≡◌}
use Rattle.sevens.specs.Sevens.{code_length_of}
use Rattle.sevens.proofs.code_length.Given as goal

abbrev pub invariant-loop-left : goal.invariant-loop-left
invariant-loop-left l = (1 ≤ l.count) × (l.count + code_length_of l.left ≡ code_length_of l.v + 1)

abbrev pub decreases-loop-left : goal.decreases-loop-left
decreases-loop-left l = l.left
