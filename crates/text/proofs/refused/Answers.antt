-- `text::refused` meets its contract: the line is put into a fresh buffer. No loop. Assumes nothing.
use Rattle.std.proofs.Common.{arith}
use Rattle.words.specs.Held.{holds_put}
use Rattle.text.proofs.refused.Goals as goal

pub returns : goal.returns
returns c =
    let put = c.refused_line-len.ensures in
    rw c.number.ensures at (holds_put _ _ _ put.0 (omega (arith, put.1)))
