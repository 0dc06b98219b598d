-- `sevens::number_in` meets its contract.
-- Each way out is one case of the answer, which a law names.
-- Assumes nothing.
use Rattle.std.proofs.Common.{⊎_elim, sym, ◌∙◌, ap, arith}
use Rattle.sevens.specs.Sevens.{refused}
use Rattle.sevens.specs.Laws.{raw_size, number_cut, number_long, number_low, number_high, number_accepted, cut_length}
use Rattle.sevens.proofs.number_in.Goals as goal

pub returns-in-Cut-clause-answer : goal.returns-in-Cut-clause-answer
returns-in-Cut-clause-answer c =
    rw c.at.ensures (sym (number_cut _ _ _ _ (sym c.written.ensures ∙ c.in-Cut.is) ∙ ap (refused 1) (cut_length c.args.groups _)))

pub returns-in-Long-clause-answer : goal.returns-in-Long-clause-answer
returns-in-Long-clause-answer c =
    rw c.at-in-Long.ensures (sym (number_long _ _ _ _ (sym c.written.ensures ∙ c.in-Long.is) ∙ ap (refused 2) (sym c.long_place.ensures)))

pub returns-in-Value-clause-answer : goal.returns-in-Value-clause-answer
returns-in-Value-clause-answer c =
    let e = sym c.written.ensures ∙ c.in-Value.is in
    rw c.at-in-Value.ensures (sym (⊎_elim (λ l. number_low _ _ _ _ _ _ e l) (λ l. number_high _ _ _ _ _ _ e l.1) c.if-high-v.either))

pub returns-in-Value-2-clause-answer : goal.returns-in-Value-2-clause-answer
returns-in-Value-2-clause-answer c =
    sym (number_accepted _ _ _ _ _ _ (sym c.written.ensures ∙ c.in-Value.is) (omega arith) (omega arith))

pub returns-in-Value-2-clause-inside : goal.returns-in-Value-2-clause-inside
returns-in-Value-2-clause-inside c = omega (arith, raw_size _ _ _ _ (sym c.written.ensures ∙ c.in-Value.is))
