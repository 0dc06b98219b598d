-- `loops::zero_loop` meets its contract: the first loop of rules of offset 0: that of the listed rules, by their numbers.
-- Assumes nothing.
use Rattle.std.proofs.Common.{ℕ, ◌≡◌, get_or, take, rules}
use Rattle.loops.specs.Listed.{sifted_listed}
use Rattle.loops.specs.Told.{len_of, at_of, rules_of}
use Rattle.loops.specs.Found.{found_listed}
use Rattle.loops.proofs.zero_loop.Goals as goal

pub returns : goal.returns
returns c =
    let a = c.args in
    let k = c.kept-kind.result in
    let r = c.first_listed.result in
    let A : ℕ → Type 0 = λ i. get_or a.rules.now.offset.now i 0 ≡ 0 in
    found_listed a.rules.now.source.now a.rules.now.target.now a.rules.now.offset.now (take k.len k.rules) a.rules.now.m a.rules.now.n (len_of r) (at_of r) (rules_of r) A (sifted_listed A _ _ k.rules k.len a.rules.now.m (λ r b p. search rules) (λ r b p. search rules) (search rules) c.kept-kind.ensures) c.first_listed.ensures
