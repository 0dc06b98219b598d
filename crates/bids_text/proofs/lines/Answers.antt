-- `bids_text::lines` meets its contract: its three lines one after the other. No loop. Assumes nothing.
use Rattle.std.proofs.Common.{arith}
use Rattle.words.specs.Puts.{puts_then}
use Rattle.bids_text.proofs.lines.Goals as goal

pub returns : goal.returns
returns c =
    let first = c.bid_line-a.ensures in
    let second = c.bid_line-b.ensures in
    let better = c.better_line.ensures in
    (puts_then first.0 (puts_then second.0 better.0), omega (arith, first.1, second.1, better.1))
