-- `words::range_line` meets its contract: its parts one after the other. No loop. Assumes nothing.
use Rattle.std.proofs.Common.{arith}
use Rattle.words.specs.Puts.{puts_then}
use Rattle.words.proofs.range_line.Goals as goal

pub returns : goal.returns
returns c =
    let period = c.word-a.ensures in
    let low = c.ratio-b.ensures in
    let to = c.word-c.ensures in
    let high = c.ratio-d.ensures in
    let end = c.byte.ensures in
    (puts_then period (puts_then low.0 (puts_then to (puts_then high.0 end))), omega (arith, period.place, low.1, to.place, high.1, end.place))
