-- `refusal` meets its contract: what refuses is what the promise says, and where nothing does, nothing speaks against the simulation.
-- Assumes nothing.
use Rattle.std.proofs.Common.{◌≡◌, Err, arith, rules}
use Rattle.refusals.specs.Number.{number_positive}
use Rattle.columns.specs.Lay.{judged_outside, judged_within}
use Rattle.simulation.specs.Refusals.{judge_outside, judge_span, judge_blank, judge_room, judge_turned}
use Rattle.simulation.proofs.refusal.Goals as goal

pub returns-in_err-check : goal.returns-in_err-check
returns-in_err-check c =
    let x = c.in_err-check in
    let e : c.from_residual.result ≡ Err x.field-0.0 = search rules in
    rw e (judge_outside _ _ _ _ (judged_outside _ _ x.ensures (number_positive _)))

pub returns-then-occurrences-lt-MIN_OCCURRENCES : goal.returns-then-occurrences-lt-MIN_OCCURRENCES
returns-then-occurrences-lt-MIN_OCCURRENCES c =
    rw c.at.ensures (judge_span _ _ _ (judged_within _ _ c.in_ok-check.ensures (omega arith)) (λ s. omega (arith, s.0, s.1)))

pub returns-in-Some : goal.returns-in-Some
returns-in-Some c =
    rw c.at-in-Some.ensures (judge_blank _ _ _ (judged_within _ _ c.in_ok-check.ensures (omega arith)) (omega arith, omega arith) _ c.in-Some.ensures)

pub returns-then-len-needed : goal.returns-then-len-needed
returns-then-len-needed c =
    rw c.at-then-len-needed.ensures
    (judge_room _ _ _ (judged_within _ _ c.in_ok-check.ensures (omega arith)) (omega arith, omega arith) c.in_default.ensures (omega arith))

pub returns : goal.returns
returns c =
    judge_turned _ _ _ (judged_within _ _ c.in_ok-check.ensures (omega arith)) (omega arith, omega arith) c.in_default.ensures (omega arith) _ c.turns.ensures
