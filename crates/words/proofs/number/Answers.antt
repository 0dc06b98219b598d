-- `words::number` meets its contract: a space, then the number. No loop. Assumes nothing.
use Rattle.std.proofs.Common.{ℕ, ap, sym, arith, List, ◌++◌, append-nil}
use Rattle.words.specs.Decimal.{ascii}
use Rattle.words.specs.Puts.{puts_same, puts_then}
use Rattle.words.proofs.number.Goals as goal

pub returns : goal.returns
returns c =
    let space = c.byte-next.ensures in
    let digits = c.decimal.ensures in
    (puts_same (ap (λ (r : List ℕ). ascii " " ++ r) (sym (append-nil _))) (puts_then space digits.0), omega (arith, space.place))
