-- `text::lines::schedule_line` meets its contract: its parts one after the other. No loop. Assumes nothing.
use Rattle.std.proofs.Common.{ap, sym, [], ◌∷◌, arith}
use Rattle.words.specs.Decimal.{numbers, numbers_append}
use Rattle.words.specs.Puts.{puts_then, puts_same}
use Rattle.text.specs.Made.{listed_same}
use Rattle.text.proofs.lines.schedule_line.Goals as goal

pub returns : goal.returns
returns c =
    let name = c.word-a.ensures in
    let q = c.number-b.ensures in
    let values = c.list-c.ensures in
    let end = c.byte.ensures in
    let xs = numbers_append (c.args.q ∷ []) c.args.x.now in
    let put = puts_same (ap numbers (listed_same _ _ values.1)) values.2 in
    (puts_then name (puts_then (puts_same (sym xs) (puts_then q.0 put)) end), omega (arith, name.place, q.1, values.3, end.place))
