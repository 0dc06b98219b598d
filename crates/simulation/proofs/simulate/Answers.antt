-- `simulate` meets its contract: refused it writes nothing, and else the times of the columns are those of the table.
-- Assumes nothing.
use Rattle.std.proofs.Common.{◌≡◌, Err, refl, arith, rules}
use Rattle.engine.specs.Lap.{live_columns}
use Rattle.simulation.specs.Blanks.{columns_live, columns_timed, timed_columns}
use Rattle.simulation.specs.Refusals.{simulated}
use Rattle.simulation.proofs.simulate.Goals as goal

pub returns-in_err-refusal : goal.returns-in_err-refusal
returns-in_err-refusal c =
    let x = c.in_err-refusal in
    let e : c.from_residual.result ≡ Err x.field-0.0 = search rules in
    rw e (x.ensures _ refl)

pub lay-c-requires : goal.lay-c-requires
lay-c-requires c = c.in_ok-refusal.ensures.within

pub written-requires-clause-live : goal.written-requires-clause-live
written-requires-clause-live c =
    let z = c.lay-c.ensures.sized in
    let low = c.low.ensures in
    live_columns c.lay-c.result c.low.result low.columns low.sized (rw z.0 (columns_live _ _ _ _ _ _ _ c.lay-c.ensures.laid c.in_ok-refusal.ensures.live))

pub written-requires-clause-count_bound : goal.written-requires-clause-count_bound
written-requires-clause-count_bound c =
    let p = c.in_ok-refusal.ensures in
    let n : c.low.result.n ≡ c.args.t.n = omega (arith, c.low.ensures.sized.1, c.lay-c.ensures.sized.1) in
    rw n (p.span.1, omega (arith, p.room))

pub returns : goal.returns
returns c =
    let z = c.lay-c.ensures.sized in
    let low = c.low.ensures in
    let h = timed_columns c.lay-c.result c.low.result low.columns low.delay low.sized _ _ _ c.written.ensures in
    simulated _ _ _ _ _ c.in_ok-refusal.ensures refl refl (columns_timed _ _ _ _ _ _ _ c.lay-c.ensures.laid _ _ _ _ (rw (z.0, z.1) at h))
