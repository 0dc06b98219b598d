-- `rulefile::file_length` meets its contract. Assumes nothing.
use Rattle.std.proofs.Common.{◌+◌, ◌-◌, ap, length, arith}
use Rattle.rulefile.specs.Length.{file_length_lem}
use Rattle.rulefile.specs.Steps.{count_head, count_turn, rules_over}
use Rattle.rulefile.proofs.file_length.Goals as goal

pub loop-r-init : goal.loop-r-init
loop-r-init c = count_head c.args.t.now _ _ c.length_of.ensures.0 c.length_of-2.ensures.0

pub overflow_add-count-in-loop-r : goal.overflow_add-count-in-loop-r
overflow_add-count-in-loop-r c =
    let l = c.loop-r in
    let t = c.args.t.now in
    let turn = count_turn t l.r (t.m - l.r) (t.m - (l.r + 1)) _ l.count _ (omega arith) c.rule_length-count.ensures l.invariant in
    omega (arith, file_length_lem t c.requires)

pub loop-r-preserved : goal.loop-r-preserved
loop-r-preserved c =
    let l = c.loop-r in
    let t = c.args.t.now in
    count_turn t l.r (t.m - l.r) (t.m - (l.r + 1)) _ l.count _ (omega arith) c.rule_length-count.ensures l.invariant

pub returns : goal.returns
returns c =
    let l = c.loop-r in
    let t = c.args.t.now in
    omega (arith, ap length (rules_over t l.r (t.m - l.r) (omega arith)), l.invariant)
