-- `words::refused_words` meets its contract: its parts one after the other. No loop. Assumes nothing.
use Rattle.std.proofs.Common.{ap, arith}
use Rattle.words.specs.Decimal.{decimal}
use Rattle.words.specs.Puts.{puts_then, puts_same}
use Rattle.words.proofs.refused_words.Goals as goal

pub returns : goal.returns
returns c =
    let refused = c.word-a.ensures in
    let f = c.decimal-b.ensures in
    let at = c.word-c.ensures in
    let p = c.decimal.ensures in (
      puts_then refused (puts_then (puts_same (ap decimal c.from.ensures) f.0) (puts_then at p.0)),
      omega (arith, refused.place, f.1, at.place, p.1),
    )
