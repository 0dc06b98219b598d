-- `words::ratio` meets its contract: its parts one after the other. No loop. Assumes nothing.
use Rattle.std.proofs.Common.{arith}
use Rattle.words.specs.Puts.{puts_then}
use Rattle.words.proofs.ratio.Goals as goal

pub returns : goal.returns
returns c =
    let p = c.decimal-a.ensures in
    let slash = c.byte-b.ensures in
    let q = c.decimal.ensures in
    (puts_then p.0 (puts_then slash q.0), omega (arith, p.1, slash.place, q.1))
