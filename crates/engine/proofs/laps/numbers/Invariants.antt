-- `laps::numbers` meets its contract. The loop's invariant: the first i numbers are copied, zeros follow.
-- Assumes nothing.
use Rattle.std.proofs.Common.{◌-◌, ◌≡◌, take, ◌++◌, replicate}
use Rattle.engine.proofs.laps.numbers.Given as goal

abbrev pub invariant-loop-i : goal.invariant-loop-i
invariant-loop-i l = l.numbers ≡ take l.i l.rules ++ replicate (256 - l.i) 0
