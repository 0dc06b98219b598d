-- `laps::end` meets its contract: the rule numbers padded with zeros are the end's (`end_made`).
-- Assumes nothing.
use Rattle.std.proofs.Common.{arith}
use Rattle.engine.specs.Lap.{end_made}
use Rattle.engine.proofs.laps.end.Goals as goal

pub returns : goal.returns
returns c = end_made _ _ _ c.args.side.now.rules c.numbers.result c.requires (omega arith) c.numbers.ensures
