-- `laps::answered` meets its contract: the parts make the answer (`lap_made`).
-- Assumes nothing.
use Rattle.engine.specs.Lap.{lap_made}
use Rattle.engine.proofs.laps.answered.Goals as goal

pub returns : goal.returns
returns c =
    let low = c.args.low.now in
    let high = c.args.high.now in
    (c.meet.ensures, lap_made c.args.n low.p low.q low.len low.rules high.p high.q high.len high.rules high.x _ _ _ c.end.ensures c.end-2.ensures c.requires.0 c.requires.4 c.requires.3)
