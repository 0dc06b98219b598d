-- `rulefile::fill` meets its contract: the sizes, and then the rules. No loop. Assumes nothing.
use Rattle.std.proofs.Common.{◌≡◌, Result, Err, refl, ap, ◌∙◌, rules}
use Rattle.table.specs.declared.Table.{Table}
use Rattle.refusals.specs.declared.Refusal.{Refusal}
use Rattle.rulefile.specs.File.{table_told, rules_from_of}
use Rattle.rulefile.specs.Steps.{sized_is}
use Rattle.rulefile.proofs.fill.Goals as goal

pub returns-in_err-n : goal.returns-in_err-n
returns-in_err-n c =
    let x = c.in_err-n in
    let e : c.from_residual.result ≡ Err x.field-0.0 = search rules in
    ap (λ (y : Result (Unit {0}) Refusal). table_told y c.args.table.now) e ∙ x.ensures.refused

pub rules_from-requires : goal.rules_from-requires
rules_from-requires c = let x = c.in_ok-n.ensures.read in (x.0, x.1, x.2, x.3)

pub returns : goal.returns
returns c =
    let x = c.in_ok-n in
    c.rules_from.ensures
    ∙ ap (λ (t : Table). rules_from_of c.args.bytes.now x.n t x.at 0 x.m) (sized_is x.n x.m x.n c.args.table.now refl c.requires)
    ∙ x.ensures.read.4
