-- `rates_text::line::exact_words` meets its contract: its parts one after the other. No loop. Assumes nothing.
use Rattle.std.proofs.Common.{arith}
use Rattle.words.specs.Puts.{puts_then}
use Rattle.rates_text.proofs.line.exact_words.Goals as goal

pub returns : goal.returns
returns c =
    let rate = c.word-a.ensures in
    let pq = c.ratio-b.ensures in
    let exact = c.word.ensures in
    (puts_then rate (puts_then pq.0 exact), omega (arith, rate.place, pq.1, exact.place))
