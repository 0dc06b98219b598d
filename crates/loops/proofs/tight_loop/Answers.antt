-- `loops::tight_loop` meets its contract: the first loop of tight rules: that of the listed rules, by their numbers.
-- Assumes nothing.
use Rattle.std.proofs.Common.{ℕ, take, rules}
use Rattle.theory.specs.Schedule.{TightRule}
use Rattle.columns.specs.Views.{of_filled, delays_of}
use Rattle.loops.specs.Listed.{sifted_listed}
use Rattle.loops.specs.Told.{len_of, at_of, rules_of}
use Rattle.loops.specs.Found.{found_listed}
use Rattle.loops.proofs.tight_loop.Goals as goal

pub returns : goal.returns
returns c =
    let a = c.args in
    let k = c.kept-kind.result in
    let r = c.first_listed.result in
    let A : ℕ → Type 0 = TightRule (of_filled a.rules.now) (delays_of a.rules.now) a.p a.q a.x.now in
    found_listed a.rules.now.source.now a.rules.now.target.now a.rules.now.offset.now (take k.len k.rules) a.rules.now.m a.rules.now.n (len_of r) (at_of r) (rules_of r) A (sifted_listed A _ _ k.rules k.len a.rules.now.m (λ r b p. search rules) (λ r b p. search rules) (search rules) c.kept-kind.ensures) c.first_listed.ensures
