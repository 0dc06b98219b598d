-- `search::above::bid` meets its contract.
-- Assumes nothing.
use Rattle.std.proofs.Math.Nat.{max-le}
use Rattle.search.specs.Above.{bid_made}
use Rattle.search.proofs.above.bid.Goals as goal

pub returns : goal.returns
returns c =
    rw (← c.from-from.ensures, ← c.from-to.ensures)
    (bid_made c.from-2.result c.from.result c.max.result _ _ (λ b l v. rw c.max.ensures (max-le v l)) (rw c.from.ensures c.requires.delay_low) c.larger.ensures c.parent.ensures)
