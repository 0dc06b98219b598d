-- `rulefile::sizes` meets its contract: n and m, each stage one law of specs/Steps.antt. No loop. Assumes nothing.
use Rattle.std.proofs.Common.{◌≡◌, ℕ, Result, Err, IfErr, sym, ◌∙◌, subst, rules}
use Rattle.refusals.specs.declared.Refusal.{Refusal}
use Rattle.refusals.specs.Number.{number_of}
use Rattle.rulefile.specs.File.{refused_read, read_of}
use Rattle.rulefile.specs.Steps.{then_err, then_ok, num_in}
use Rattle.rulefile.proofs.sizes.Goals as goal

pub returns-in_err-n-clause-refused : goal.returns-in_err-n-clause-refused
unfolding read_of
returns-in_err-n-clause-refused c =
    let x = c.in_err-n in
    let e : c.from_residual.result ≡ Err x.field-0.0 = search rules in
    subst (λ (y : Result (ℕ × ℕ × ℕ) Refusal). IfErr y (λ e. refused_read (number_of e.why) e.place ≡ read_of c.args.bytes.now)) (sym e)
    (sym (then_err _ _ _ x.field-0.0.why _ x.ensures.told))

pub returns-in_err-m-clause-refused : goal.returns-in_err-m-clause-refused
unfolding read_of
returns-in_err-m-clause-refused c =
    let x = c.in_err-m in
    let e : c.from_residual-in_err-m.result ≡ Err x.field-0.0 = search rules in
    subst (λ (y : Result (ℕ × ℕ × ℕ) Refusal). IfErr y (λ e. refused_read (number_of e.why) e.place ≡ read_of c.args.bytes.now)) (sym e)
    (sym (then_ok _ _ _ _ _ c.in_ok-n.ensures.told ∙ then_err _ _ _ x.field-0.0.why _ x.ensures.told))

pub returns-clause-read : goal.returns-clause-read
unfolding read_of
returns-clause-read c =
    let n = num_in _ _ _ _ _ _ c.in_ok-n.ensures.told in (
      c.in_ok-m.ensures.inside,
      n.0,
      n.1,
      (num_in _ _ _ _ _ _ c.in_ok-m.ensures.told).1,
      sym (then_ok _ _ _ _ _ c.in_ok-n.ensures.told ∙ then_ok _ _ _ _ _ c.in_ok-m.ensures.told),
    )
