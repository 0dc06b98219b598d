-- `words::word` meets its contract: a loop over its bytes.
-- Invariant: the bytes so far are put. Assumes nothing.
use Rattle.std.proofs.Common.{take}
use Rattle.words.specs.Puts.{Puts}
use Rattle.words.proofs.word.Given as goal

abbrev pub invariant-loop-b : goal.invariant-loop-b
invariant-loop-b l = Puts (take l.b-index l.s) l.initial.out l.at l.out l.next
