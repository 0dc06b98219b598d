-- `rulefile::rule_at` meets its contract: the four numbers one after the other, each stage one law of specs/Steps.antt. No loop. Assumes nothing.
use Rattle.std.proofs.Common.{◌≡◌, Err, refl, ap, sym, ◌∙◌, arith, rules}
use Rattle.rulefile.specs.File.{rule_told, rule_at_of}
use Rattle.rulefile.specs.Steps.{then_err, then_ok, num_in, rule_same}
use Rattle.rulefile.proofs.rule_at.Goals as goal

pub returns-in_err-source-clause-told : goal.returns-in_err-source-clause-told
unfolding rule_at_of
returns-in_err-source-clause-told c =
    let x = c.in_err-source in
    let e : c.from_residual.result ≡ Err x.field-0.0 = search rules in
    ap rule_told e ∙ sym (then_err _ _ _ x.field-0.0.why _ x.ensures.told)

pub returns-in_err-target-clause-told : goal.returns-in_err-target-clause-told
unfolding rule_at_of
returns-in_err-target-clause-told c =
    let x = c.in_err-target in
    let e : c.from_residual-in_err-target.result ≡ Err x.field-0.0 = search rules in
    ap rule_told e ∙ sym (then_ok _ _ _ _ _ c.in_ok-source.ensures.told ∙ then_err _ _ _ x.field-0.0.why _ x.ensures.told)

pub returns-in_err-offset-clause-told : goal.returns-in_err-offset-clause-told
unfolding rule_at_of
returns-in_err-offset-clause-told c =
    let x = c.in_err-offset in
    let e : c.from_residual-in_err-offset.result ≡ Err x.field-0.0 = search rules in
    ap rule_told e ∙ sym (then_ok _ _ _ _ _ c.in_ok-source.ensures.told ∙ then_ok _ _ _ _ _ c.in_ok-target.ensures.told ∙ then_err _ _ _ x.field-0.0.why _ x.ensures.told)

pub returns-in_err-code-clause-told : goal.returns-in_err-code-clause-told
unfolding rule_at_of
returns-in_err-code-clause-told c =
    let x = c.in_err-code in
    let e : c.from_residual-in_err-code.result ≡ Err x.field-0.0 = search rules in
    ap rule_told e ∙ sym (then_ok _ _ _ _ _ c.in_ok-source.ensures.told ∙ then_ok _ _ _ _ _ c.in_ok-target.ensures.told ∙ then_ok _ _ _ _ _ c.in_ok-offset.ensures.told ∙ then_err _ _ _ x.field-0.0.why _ x.ensures.told)

pub overflow_cast-rule : goal.overflow_cast-rule
overflow_cast-rule c = omega (arith, c.requires, num_in _ _ _ _ _ _ c.in_ok-source.ensures.told)

pub overflow_cast-rule-2 : goal.overflow_cast-rule-2
overflow_cast-rule-2 c = omega (arith, c.requires, num_in _ _ _ _ _ _ c.in_ok-target.ensures.told)

pub overflow_cast-rule-3 : goal.overflow_cast-rule-3
overflow_cast-rule-3 c = omega (arith, num_in _ _ _ _ _ _ c.in_ok-offset.ensures.told)

pub returns-clause-told : goal.returns-clause-told
unfolding rule_at_of
returns-clause-told c =
    sym (then_ok _ _ _ _ _ c.in_ok-source.ensures.told ∙ then_ok _ _ _ _ _ c.in_ok-target.ensures.told ∙ then_ok _ _ _ _ _ c.in_ok-offset.ensures.told ∙ then_ok _ _ _ _ _ c.in_ok-code.ensures.told ∙ rule_same _ _ _ _ _ _ _ _ _ refl refl refl c.delay_of.ensures)
