-- `turns` meets its contract: the check of the table, or the first loop of rules of offset 0 on its columns, decides.
-- Assumes nothing.
use Rattle.std.proofs.Common.{◌≡◌, Err, Some, None, inl, arith, rules}
use Rattle.refusals.specs.Number.{number_positive}
use Rattle.columns.specs.Lay.{judged_outside, judged_within}
use Rattle.engine.specs.Lap.{zero_columns}
use Rattle.engine.specs.Turn.{turn_knotted, turn_live}
use Rattle.engine.proofs.turns.Goals as goal

pub returns-in_err-check : goal.returns-in_err-check
returns-in_err-check c =
    let x = c.in_err-check in
    let e : c.from_residual.result ≡ Err x.field-0.0 = search rules in
    rw e (inl (judged_outside _ _ x.ensures (number_positive _)))

pub lay-c-requires : goal.lay-c-requires
lay-c-requires c = judged_within _ _ c.in_ok-check.ensures (omega arith)

pub returns-in-Some : goal.returns-in-Some
returns-in-Some c =
    let t = c.args.t in
    let z = c.in-Some in
    let size = c.lay-c.ensures.sized in
    let f = zero_columns c.lay-c.result c.rules.result c.rules.ensures.columns c.rules.ensures.sized (Some z.zero) z.ensures in
    rw c.at.ensures (turn_knotted t (judged_within t _ c.in_ok-check.ensures (omega arith)) _ _ _ _ _ _ c.lay-c.ensures.laid _ _ _ (rw (size.0, size.1) at f) z.zero.some)

pub returns : goal.returns
returns c =
    let t = c.args.t in
    let size = c.lay-c.ensures.sized in
    let f = zero_columns c.lay-c.result c.rules.result c.rules.ensures.columns c.rules.ensures.sized None c.in_default.ensures in
    turn_live t (judged_within t _ c.in_ok-check.ensures (omega arith)) _ _ _ _ _ _ c.lay-c.ensures.laid _ _ _ (rw (size.0, size.1) at f) (omega arith)
