-- `laps::numbers` meets its contract.
use Rattle.std.proofs.Common.{◌≡◌, arith}
use Rattle.engine.specs.Lap.{numbers_next}
use Rattle.engine.proofs.laps.numbers.Goals as goal

pub loop-i-preserved : goal.loop-i-preserved
loop-i-preserved c = numbers_next _ _ _ _ (omega arith) (omega arith) c.loop-i.invariant c.from.ensures

pub returns : goal.returns
returns c =
    let done : c.loop-i.i ≡ c.args.len = omega arith in
    rw done at c.loop-i.invariant
