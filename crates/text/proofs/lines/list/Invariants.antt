-- `text::lines::list` meets its contract: a loop over its numbers.
-- Invariant: the first i numbers are put, in at most 21 bytes each. Assumes nothing.
use Rattle.std.proofs.Common.{◌+◌, ◌*◌, ◌≤◌, List, ℕ, take}
use Rattle.std.specs.List.{AllZip}
use Rattle.words.specs.Decimal.{numbers}
use Rattle.words.specs.Puts.{Puts}
use Rattle.text.proofs.lines.list.Given as goal

abbrev pub invariant-loop-x : goal.invariant-loop-x
invariant-loop-x g l =
    (ns : List ℕ) × AllZip g.T.Into.converts (take l.x-index l.xs) ns × Puts (numbers ns) l.initial.out l.at l.out l.next × (l.next ≤ l.at + 21 * l.x-index)
