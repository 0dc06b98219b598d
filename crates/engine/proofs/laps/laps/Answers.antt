-- `laps::laps` meets its contract: a loop of offset 0, no loop, or two sides, of which the second is the first where there is no blank.
-- Assumes nothing.
use Rattle.std.proofs.Common.{Some, None, ap, arith}
use Rattle.refusals.specs.declared.Refusal.{Refusal}
use Rattle.refusals.specs.Number.{number_of}
use Rattle.engine.specs.Lap.{refused_lap, zero_columns, sided_columns, live_columns, ends_knotted, ends_answered, ends_live, sided_same}
use Rattle.engine.proofs.laps.laps.Goals.{In_default, Then-not-c, After-answered-2}
use Rattle.engine.proofs.laps.laps.Goals as goal

pub returns-in-Some : goal.returns-in-Some
returns-in-Some c =
    let z = c.in-Some in
    ends_knotted (zero_columns c.args.c.now c.rules.result c.rules.ensures.columns c.rules.ensures.sized (Some z.zero) z.ensures) z.zero.some
    (ap (λ (x : Refusal). refused_lap (number_of x.why) x.place) c.at.ensures)

pub measured-requires : goal.measured-requires
measured-requires c =
    let live = ends_live (zero_columns c.args.c.now c.rules.result c.rules.ensures.columns c.rules.ensures.sized None c.in_default.ensures) (omega arith) in
    live_columns c.args.c.now c.low.result c.low.ensures.columns c.low.ensures.sized live

pub measured-requires-2 : goal.measured-requires-2
measured-requires-2 c =
    let live = ends_live (zero_columns c.args.c.now c.rules.result c.rules.ensures.columns c.rules.ensures.sized None c.in_default.ensures) (omega arith) in
    live_columns c.args.c.now c.high.result c.high.ensures.columns c.high.ensures.sized live

pub returns-then-not-c : goal.returns-then-not-c
returns-then-not-c c =
    let C = c.args.c.now in
    let live = ends_live (zero_columns C c.rules.result c.rules.ensures.columns c.rules.ensures.sized None c.in_default.ensures) (omega arith) in
    let found = c.in-Some-measured.ensures.found in
    let some = found.0 in
    let low = sided_columns C c.low.result c.low.ensures.columns C.least c.low.ensures.delay c.low.ensures.sized _ _ _ _ _ found.1 in
    ends_answered C.ordered.in_order live low (sided_same _ _ _ (C.ordered.no_blank c.if-not-c.true) _ _ _ _ _ _ low) (λ z. omega arith) c.answered.ensures.0 c.answered.ensures.1

pub returns : goal.returns
returns c =
    let C = c.args.c.now in
    let live = ends_live (zero_columns C c.rules.result c.rules.ensures.columns c.rules.ensures.sized None c.in_default.ensures) (omega arith) in
    let found = c.in-Some-measured.ensures.found in
    let some = found.0 in
    let low = sided_columns C c.low.result c.low.ensures.columns C.least c.low.ensures.delay c.low.ensures.sized _ _ _ _ _ found.1 in
    let high = sided_columns C c.high.result c.high.ensures.columns C.greatest c.high.ensures.delay c.high.ensures.sized _ _ _ _ _ c.in-Some-measured-2.ensures.found.1 in
    ends_answered C.ordered.in_order live low high (λ z. omega arith) c.answered-2.ensures.0 c.answered-2.ensures.1
