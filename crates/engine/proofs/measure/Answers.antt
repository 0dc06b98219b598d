-- `measure` meets its contract: what the analysis says of the columns it says of the table (`lap_table`).
-- Assumes nothing.
use Rattle.std.proofs.Common.{◌≡◌, Err, refl, arith, rules}
use Rattle.refusals.specs.Number.{number_positive}
use Rattle.columns.specs.Lay.{judged_outside, judged_within}
use Rattle.engine.specs.Lap.{lap_outside, lap_table}
use Rattle.engine.proofs.measure.Goals as goal

pub returns-in_err-check : goal.returns-in_err-check
returns-in_err-check c =
    let x = c.in_err-check in
    let e : c.from_residual.result ≡ Err x.field-0.0 = search rules in
    rw e (lap_outside _ _ _ _ (judged_outside _ _ x.ensures (number_positive _)) refl)

pub lay-requires : goal.lay-requires
lay-requires c = judged_within _ _ c.in_ok-check.ensures (omega arith)

pub returns : goal.returns
returns c =
    let t = c.args.t in
    let w = judged_within t _ c.in_ok-check.ensures (omega arith) in
    let z = c.lay.ensures.sized in
    lap_table t w _ _ _ _ _ _ c.lay.ensures.laid _ (rw (z.0, z.1) at c.laps.ensures)
