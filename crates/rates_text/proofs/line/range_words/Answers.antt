-- `rates_text::line::range_words` meets its contract: its parts one after the other. No loop. Assumes nothing.
use Rattle.std.proofs.Common.{arith}
use Rattle.words.specs.Puts.{puts_then}
use Rattle.rates_text.proofs.line.range_words.Goals as goal

pub returns : goal.returns
returns c =
    let rate = c.word-a.ensures in
    let low = c.ratio-b.ensures in
    let to = c.word-c.ensures in
    let high = c.ratio.ensures in
    (puts_then rate (puts_then low.0 (puts_then to high.0)), omega (arith, rate.place, low.1, to.place, high.1))
