-- `rulefile::put_rules` meets its contract. Assumes nothing.
use Rattle.std.proofs.Common.{◌+◌, ◌-◌, ap, sym, ◌∙◌, arith}
use lib.Seq.{sets}
use Rattle.rulefile.specs.Steps.{put_next, put_turn, rules_over}
use Rattle.rulefile.proofs.put_rules.Goals as goal

pub put_rule-at-requires : goal.put_rule-at-requires
put_rule-at-requires c =
    let l = c.loop-r in
    let t = c.args.t.now in
    put_next t l.r (t.m - l.r) (t.m - (l.r + 1)) l.at _ (omega arith) l.invariant.1

pub loop-r-preserved : goal.loop-r-preserved
loop-r-preserved c =
    let l = c.loop-r in
    let t = c.args.t.now in
    let x = c.put_rule-at in
    let turn = put_turn _ t l.r (t.m - l.r) (t.m - (l.r + 1)) l.out _ l.at _ (omega arith) l.invariant.0 l.invariant.1 x.ensures.0 x.ensures.1 in
    (turn.0, turn.1, turn.2 ∙ l.invariant.2)

pub returns : goal.returns
returns c =
    let l = c.loop-r in
    let t = c.args.t.now in
    sym (l.invariant.0 ∙ ap (sets l.out l.at) (rules_over t l.r (t.m - l.r) (omega arith)))
