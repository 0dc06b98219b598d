-- `words::exact_line` meets its contract: its parts one after the other. No loop. Assumes nothing.
use Rattle.std.proofs.Common.{arith}
use Rattle.words.specs.Puts.{puts_then}
use Rattle.words.proofs.exact_line.Goals as goal

pub returns : goal.returns
returns c =
    let period = c.word-a.ensures in
    let pq = c.ratio-b.ensures in
    let exact = c.word-c.ensures in
    let end = c.byte.ensures in
    (puts_then period (puts_then pq.0 (puts_then exact end)), omega (arith, period.place, pq.1, exact.place, end.place))
