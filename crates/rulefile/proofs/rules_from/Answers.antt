-- `rulefile::rules_from` meets its contract. Assumes nothing.
use Rattle.std.proofs.Common.{◌≡◌, ◌+◌, ◌-◌, Result, Err, refl, ap, sym, ◌∙◌, arith, rules}
use Rattle.refusals.specs.declared.Refusal.{Refusal}
use Rattle.refusals.specs.Number.{number_positive}
use Rattle.rulefile.specs.File.{table_told, rules_from_of}
use Rattle.rulefile.specs.Steps.{rules_bad, rules_good, rules_tail, rules_end}
use Rattle.rulefile.proofs.rules_from.Goals as goal

pub returns-in_err-rule : goal.returns-in_err-rule
returns-in_err-rule c =
    let a = c.args in
    let l = c.loop-r in
    let x = c.in_err-rule in
    let e : c.from_residual.result ≡ Err x.field-0.0 = search rules in
    ap (λ (y : Result (Unit {0}) Refusal). table_told y l.table) e
    ∙ sym (l.invariant.2 ∙ rules_bad a.bytes.now a.n l.table l.at l.r (a.table.now.m - l.r) _ x.ensures.told (omega arith) (number_positive x.field-0.0.why))

pub loop-r-preserved : goal.loop-r-preserved
loop-r-preserved c =
    let a = c.args in
    let l = c.loop-r in
    let m = a.table.now.m in
    let x = c.in_ok-rule in
    let k : m - l.r - 1 ≡ m - (l.r + 1) = omega arith in (
      refl,
      x.ensures.inside,
      l.invariant.2
          ∙ rules_good a.bytes.now a.n l.table l.at l.r (m - l.r) _ x.ensures.told (omega arith) (omega arith)
          ∙ ap (rules_from_of a.bytes.now a.n _ _ _) k,
    )

pub returns-then-at-bytes : goal.returns-then-at-bytes
returns-then-at-bytes c =
    let a = c.args in
    let l = c.loop-r in
    rw c.at.ensures (sym (l.invariant.2 ∙ rules_tail a.bytes.now a.n l.table l.at l.r (a.table.now.m - l.r) (omega arith) c.if-at-bytes.true))

pub returns : goal.returns
returns c =
    let a = c.args in
    let l = c.loop-r in
    sym (l.invariant.2 ∙ rules_end a.bytes.now a.n l.table l.at l.r (a.table.now.m - l.r) (omega arith) c.if-at-bytes.false)
