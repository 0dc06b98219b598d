-- `rulefile::number_at` meets its contract: what the number reader says of the part from `at` on, counted from the file's start. No loop. Assumes nothing.
use Rattle.std.proofs.Common.{arith}
use Rattle.refusals.specs.Number.{number_positive}
use Rattle.rulefile.specs.Steps.{num_inside, num_bad_lem, num_good_lem}
use Rattle.rulefile.proofs.number_at.Goals as goal

pub overflow_sub-result : goal.overflow_sub-result
overflow_sub-result c =
    let a = c.args in
    omega (arith, num_inside a.bytes.now a.at a.low a.high _ _ _ _ c.number.ensures.answer)

pub overflow_add-at : goal.overflow_add-at
overflow_add-at c =
    let a = c.args in
    let e = rw c.in-Err-default.is-0 at c.number.ensures.answer in
    omega (arith, num_inside a.bytes.now a.at a.low a.high _ _ _ _ e)

pub returns-in-Ok-default-clause-told : goal.returns-in-Ok-default-clause-told
returns-in-Ok-default-clause-told c =
    let a = c.args in
    let e = rw c.in-Ok-default.is-0 at c.number.ensures.answer in
    num_good_lem a.bytes.now a.at a.low a.high _ _ _ _ e (omega arith)

pub returns-in-Err-default-clause-told : goal.returns-in-Err-default-clause-told
returns-in-Err-default-clause-told c =
    let a = c.args in
    let e = rw c.in-Err-default.is-0 at c.number.ensures.answer in
    rw c.at.ensures (num_bad_lem a.bytes.now a.at a.low a.high _ _ _ _ e (number_positive c.in-Err-default.e.why))
