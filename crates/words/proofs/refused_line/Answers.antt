-- `words::refused_line` meets its contract: its words, then the end of the line. No loop. Assumes nothing.
use Rattle.std.proofs.Common.{arith}
use Rattle.words.specs.Puts.{puts_then}
use Rattle.words.proofs.refused_line.Goals as goal

pub returns : goal.returns
returns c =
    let words = c.refused_words-next.ensures in
    let end = c.byte.ensures in
    (puts_then words.0 end, omega (arith, words.1, end.place))
