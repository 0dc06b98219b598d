-- `table::check`: where every field is within its limits, so is the table.
use Rattle.std.proofs.Common.{inl, refl, arith}
use Rattle.table.specs.Fields.{ok_within}
use Rattle.table.proofs.check.Goals as goal

pub returns : goal.returns
returns c = inl (ok_within c.args.t (λ k h. c.loop-r.invariant.1 k (omega arith)), refl, refl)
