-- `text::lines::loop_line` meets its contract: its parts one after the other. No loop. Assumes nothing.
use Rattle.std.proofs.Common.{ap, arith}
use Rattle.words.specs.Decimal.{numbers}
use Rattle.words.specs.Puts.{puts_then, puts_same}
use Rattle.text.specs.Made.{listed_same}
use Rattle.text.proofs.lines.loop_line.Goals as goal

pub returns : goal.returns
returns c =
    let name = c.word-a.ensures in
    let rules = c.list-b.ensures in
    let end = c.byte.ensures in
    (puts_then name (puts_then (puts_same (ap numbers (listed_same _ _ rules.1)) rules.2) end), omega (arith, name.place, rules.3, end.place))
