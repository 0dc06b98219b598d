-- `bids::ends`: the engine's lap of the table that was read makes the bid (`bid_made`). Assumes nothing.
use Rattle.std.proofs.Common.{arith}
use Rattle.bids.specs.Steps.{bid_made}
use Rattle.bids.proofs.ends.Goals as goal

pub returns : goal.returns
returns c = bid_made _ _ _ c.in_ok-table.ensures (omega arith) c.in_ok-lap.ensures (omega arith)
