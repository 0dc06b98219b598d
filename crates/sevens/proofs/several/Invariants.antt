-- `sevens::several` meets its contract.
-- Invariant: what is left of the bytes, carried after the i groups read, gives the same number; the value is below the scale, which is 128 to the power i.
-- Assumes nothing.
use Rattle.std.proofs.Common.{◌-◌, ◌^◌, ◌≤◌, ◌<◌, ◌≡◌, length, drop}
use Rattle.sevens.specs.Sevens.{raw_of}
use Rattle.sevens.specs.Steps.{carried}
use Rattle.sevens.proofs.several.Given as goal

abbrev pub invariant-loop-i : goal.invariant-loop-i
invariant-loop-i l =
    (1 ≤ l.i) × (l.i ≤ l.groups) × (l.i ≤ length l.bytes) × (l.scale ≡ 128 ^ l.i) × (l.value < l.scale)
    × (raw_of l.groups l.bytes ≡ carried l.value l.scale l.i (raw_of (l.groups - l.i) (drop l.i l.bytes)))
