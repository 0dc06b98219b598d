-- `loops::kept` meets its contract: the rules that pass the test, lowest first.
-- The loop's invariant: the list holds those below r.
-- Assumes nothing.
use Rattle.std.proofs.Common.{◌≡◌, length, true, false}
use Rattle.loops.specs.Listed.{Sifted}
use Rattle.loops.proofs.kept.Given as goal

abbrev pub invariant-loop-r : goal.invariant-loop-r
invariant-loop-r g l = (length l.rules ≡ 2048) × Sifted (λ r. goal.F-post g l.keep r true) (λ r. goal.F-post g l.keep r false) l.rules l.len l.r
