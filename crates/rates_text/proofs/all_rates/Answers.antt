-- One rate more.
use Rattle.std.proofs.Common.{arith, length-set}
use Rattle.rates_text.specs.Rates.{rates_next}
use Rattle.rates_text.proofs.all_rates.Goals as goal

pub loop-v-preserved : goal.loop-v-preserved
loop-v-preserved c =
    let i = c.loop-v.invariant in
    (simp length-set i.0, rates_next _ _ _ _ i.0 (omega arith) i.1 (rw c.from.ensures c.rate.ensures))
