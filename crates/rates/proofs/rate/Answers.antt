-- `rate` meets its contract: what is said of the columns is said of the table (`rate_ends`).
-- Assumes nothing.
use Rattle.std.proofs.Common.{◌≡◌, Err, Some, None, refl, arith, rules}
use Rattle.refusals.specs.Number.{number_positive}
use Rattle.columns.specs.Lay.{judged_outside, judged_within}
use Rattle.engine.specs.Lap.{zero_columns, ends_live}
use Rattle.rates.specs.Rate.{rate_outside, rate_knotted, rate_ends}
use Rattle.rates.proofs.rate.Goals as goal

pub returns-in_err-check : goal.returns-in_err-check
returns-in_err-check c =
    let x = c.in_err-check in
    let e : c.from_residual.result ≡ Err x.field-0.0 = search rules in
    rw e (rate_outside _ _ _ _ _ (judged_outside _ _ x.ensures (number_positive _)) refl)

pub returns-in-Some : goal.returns-in-Some
returns-in-Some c =
    let t = c.args.t in
    let w = judged_within t _ c.in_ok-check.ensures (omega arith) in
    let z = c.in-Some in
    let size = c.lay-c.ensures.sized in
    let f = zero_columns c.lay-c.result c.rules.result c.rules.ensures.columns c.rules.ensures.sized (Some z.zero) z.ensures in
    rw c.at-in-Some.ensures (rate_knotted t w _ c.if-t-v.false _ _ _ _ _ _ c.lay-c.ensures.laid _ _ _ (rw (size.0, size.1) at f) _ z.zero.some refl)

pub ends_to-requires : goal.ends_to-requires
ends_to-requires c =
    let t = c.args.t in
    let size = c.lay-c.ensures.sized in
    let f = zero_columns c.lay-c.result c.rules.result c.rules.ensures.columns c.rules.ensures.sized None c.in_default.ensures in
    (ends_live f (omega arith), omega (arith, size))

pub returns : goal.returns
returns c =
    let t = c.args.t in
    let w = judged_within t _ c.in_ok-check.ensures (omega arith) in
    let size = c.lay-c.ensures.sized in
    let f = zero_columns c.lay-c.result c.rules.result c.rules.ensures.columns c.rules.ensures.sized None c.in_default.ensures in
    rate_ends t w _ c.if-t-v.false _ _ _ _ _ _ c.lay-c.ensures.laid _ _ _ (rw (size.0, size.1) at f) (omega arith) _ (rw (size.0) at c.ends_to.ensures)
