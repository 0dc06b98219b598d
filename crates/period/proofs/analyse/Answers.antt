-- `analyse` meets its contract: what is copied fits, and the answer is what the promise says of the engine's verdict (`analysed_found`). The refusals need no answer.
-- Assumes nothing.
use Rattle.std.proofs.Common.{◌≡◌, Ok, ℕ, List, ◌++◌, drop, ap, arith, length-take-le, sym, ◌∙◌}
use Rattle.engine.specs.Lap.{told_lap, LapOf}
use Rattle.period.specs.Steps.{analysed_found, lap_within, lap_short, made_analysis}
use Rattle.period.proofs.analyse.Goals as goal
use Rattle.period.proofs.analyse.Goals.{In_ok-lap, in_default-2, in_default}

-- what was measured comes through the match
measured : (c : In_ok-lap) → LapOf c.args.t (told_lap (Ok c.in_ok-lap.lap))
measured c =
    let same : c.measure.result ≡ c.match-measure.lap =
    elim c.match-measure.branch [ in_default-2 w ↦ w.in-Err.is ∙ sym w.lap-is | in_default w ↦ sym w.lap-is ] in
    rw (same ∙ c.in_ok-lap.was) at c.measure.ensures

-- what was copied stands before the rest
put : (n : ℕ) (out : List ℕ) {xs ys : List ℕ} → ys ≡ xs → ys ++ drop n out ≡ xs ++ drop n out
put n out e = ap (λ (l : List ℕ). l ++ drop n out) e

pub slice_bounds-copy_from_slice-end-4 : goal.slice_bounds-copy_from_slice-end-4
slice_bounds-copy_from_slice-end-4 c =
    let room = c.if-low-n.false in
    omega (arith, (lap_short _ _ (measured (goal.at.slice_bounds-copy_from_slice-end-4 c).In_ok-lap)).0)

pub slice_bounds-copy_from_slice-end-5 : goal.slice_bounds-copy_from_slice-end-5
slice_bounds-copy_from_slice-end-5 c =
    let room = c.if-low-n.false in
    sym (length-take-le _ _ (omega (arith, (lap_short _ _ (measured (goal.at.slice_bounds-copy_from_slice-end-5 c).In_ok-lap)).0)))

pub copy_from_slice-requires-2 : goal.copy_from_slice-requires-2
copy_from_slice-requires-2 c =
    let is = measured (goal.at.copy_from_slice-requires-2 c).In_ok-lap in
    let few = (lap_within _ _ is (omega arith)).n_high in
    let short = lap_short _ _ is in
    let room = c.if-low-n.false in
    length-take-le _ _ (omega arith) ∙ sym (length-take-le _ _ (omega arith))

pub slice_bounds-copy_from_slice-end-7 : goal.slice_bounds-copy_from_slice-end-7
slice_bounds-copy_from_slice-end-7 c =
    let room = c.if-high-n.false in
    omega (arith, (lap_short _ _ (measured (goal.at.slice_bounds-copy_from_slice-end-7 c).In_ok-lap)).1)

pub slice_bounds-copy_from_slice-end-8 : goal.slice_bounds-copy_from_slice-end-8
slice_bounds-copy_from_slice-end-8 c =
    let room = c.if-high-n.false in
    sym (length-take-le _ _ (omega (arith, (lap_short _ _ (measured (goal.at.slice_bounds-copy_from_slice-end-8 c).In_ok-lap)).1)))

pub copy_from_slice-requires-3 : goal.copy_from_slice-requires-3
copy_from_slice-requires-3 c =
    let is = measured (goal.at.copy_from_slice-requires-3 c).In_ok-lap in
    let few = (lap_within _ _ is (omega arith)).n_high in
    let short = lap_short _ _ is in
    let room = c.if-high-n.false in
    length-take-le _ _ (omega arith) ∙ sym (length-take-le _ _ (omega arith))

pub returns : goal.returns
returns c =
    let is = measured (goal.at.returns c).In_ok-lap in
    let lap = c.in_ok-lap.lap in
    rw (c.from.ensures, c.from-2.ensures)
    (analysed_found _ _ is _ _ _ (made_analysis (told_lap (Ok lap))) c.if-schedule-n.false c.if-low-n.false c.if-high-n.false (omega arith) (omega arith) _ _ _
    (put c.args.t.n c.args.schedule.now c.copy_from_slice.ensures.after)
    (put lap.low.len c.args.low.now c.copy_from_slice-2.ensures.after)
    (put lap.high.len c.args.high.now c.copy_from_slice-3.ensures.after))
