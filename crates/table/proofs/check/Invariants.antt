-- `table::check` meets its contract. The loop's invariant: n and m are within their limits, and so is every field of the rules passed. Assumes nothing.
use Rattle.std.proofs.Common.{ℕ, ◌+◌, ◌*◌, ◌≤◌, ◌<◌}
use Rattle.table.specs.Limits.{max_m}
use Rattle.table.specs.Fields.{Ok}
use Rattle.table.proofs.check.Given as goal

abbrev pub invariant-loop-r : goal.invariant-loop-r
invariant-loop-r l = (l.t.m ≤ max_m) × ((k : ℕ) → k < 2 + 4 * l.r → Ok l.t k)
