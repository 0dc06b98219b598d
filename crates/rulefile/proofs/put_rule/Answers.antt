-- `rulefile::put_rule` meets its contract: four numbers one after the other. No loop. Assumes nothing.
use Rattle.std.proofs.Common.{arith}
use Rattle.rulefile.specs.Steps.{put_fits, put_rule_lem}
use Rattle.rulefile.proofs.put_rule.Goals as goal

pub overflow_add-at : goal.overflow_add-at
overflow_add-at c =
    let f1 = put_fits _ _ _ _ _ c.put.ensures (omega arith) in
    omega arith

pub overflow_add-at-2 : goal.overflow_add-at-2
overflow_add-at-2 c =
    let f1 = put_fits _ _ _ _ _ c.put.ensures (omega arith) in
    let f2 = put_fits _ _ _ _ _ c.put-2.ensures (omega arith) in
    omega arith

pub overflow_add-at-3 : goal.overflow_add-at-3
overflow_add-at-3 c =
    let f1 = put_fits _ _ _ _ _ c.put.ensures (omega arith) in
    let f2 = put_fits _ _ _ _ _ c.put-2.ensures (omega arith) in
    let f3 = put_fits _ _ _ _ _ c.put-3.ensures (omega arith) in
    omega arith

pub overflow_add-result : goal.overflow_add-result
overflow_add-result c =
    let f1 = put_fits _ _ _ _ _ c.put.ensures (omega arith) in
    let f2 = put_fits _ _ _ _ _ c.put-2.ensures (omega arith) in
    let f3 = put_fits _ _ _ _ _ c.put-3.ensures (omega arith) in
    let f4 = put_fits _ _ _ _ _ c.put-4.ensures (omega arith) in
    omega arith

pub returns : goal.returns
returns c =
    (put_rule_lem _ _ _ _ _ _ _ _ _ _ _ _ _ _ _ c.requires
    (c.from.ensures, c.from-2.ensures, c.from-3.ensures, c.code_of.ensures)
    c.put.ensures c.put-2.ensures c.put-3.ensures c.put-4.ensures)
