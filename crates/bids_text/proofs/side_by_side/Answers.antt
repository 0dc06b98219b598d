-- `bids_text::side_by_side` meets its contract: the lines are put into a fresh buffer. No loop. Assumes nothing.
use Rattle.std.proofs.Common.{arith}
use Rattle.words.specs.Held.{holds_put}
use Rattle.bids_text.proofs.side_by_side.Goals as goal

pub returns : goal.returns
returns c =
    let put = c.lines-len.ensures in
    record { laid = _; is_laid = c.side_by_side-laid.ensures; is_held = holds_put _ _ _ put.0 (omega (arith, put.1)) }
