-- `loops::away` meets its contract: how far a transition is from v.
-- Assumes nothing.
use Rattle.std.proofs.Common.{sym, ◌∙◌, arith}
use Rattle.distances.specs.Near.{away_home, away_other}
use Rattle.loops.proofs.away.Goals as goal

pub returns-then-t-v : goal.returns-then-t-v
returns-then-t-v c = let a = c.args in sym (away_home a.v a.t a.d c.if-t-v.true)

pub returns-else-t-v : goal.returns-else-t-v
returns-else-t-v c = let a = c.args in c.from.ensures ∙ sym (away_other a.v a.t a.d (λ e. omega arith))
