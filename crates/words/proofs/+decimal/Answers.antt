-- `words::decimal` meets its contract: the tens, then the last digit. A u64 has at most 20 digits.
use Rattle.std.proofs.Common.{◌/◌, ap, sym, ◌∙◌, arith, ℕ, [], ◌∷◌, ◌++◌}
use Rattle.words.specs.Decimal.{decimal_one, decimal_more, decimal_length, decimal}
use Rattle.words.specs.Puts.{puts_then, puts_same}
use Rattle.words.proofs.+decimal.Goals as goal

pub returns-then-v-lt10 : goal.returns-then-v-lt10
returns-then-v-lt10 t c =
    let put = c.byte.ensures in
    (puts_same (ap (λ (b : ℕ). b ∷ []) c.digit.ensures ∙ sym (decimal_one _ c.if-v-lt10.true)) put, omega (arith, put.place))

pub returns : goal.returns
returns t c =
    let puts = puts_same (ap (λ (b : ℕ). decimal (c.args.v / 10) ++ (b ∷ [])) c.digit-2.ensures ∙ sym (decimal_more c.args.v (omega arith))) (puts_then c.decimal-next.ensures.0 c.byte-2.ensures) in
    (puts, omega (arith, puts.place, decimal_length 19 c.args.v (omega arith)))
