-- `laps::measured` meets its contract: the climb and the first loop of tight rules make a side (`sided`).
-- Assumes nothing.
use Rattle.std.proofs.Common.{refl}
use Rattle.engine.specs.Lap.{sided}
use Rattle.engine.proofs.laps.measured.Goals as goal

pub returns-in_default-clause-none : goal.returns-in_default-clause-none
returns-in_default-clause-none c =
    let l = c.args.rules.now.limits in
    (sided _ _ _ _ _ _ _ _ _ l.fits l.few_transitions c.requires c.climb-p.ensures.reached c.in_default.ensures).none refl

pub returns-clause-found : goal.returns-clause-found
returns-clause-found c =
    let l = c.args.rules.now.limits in
    (c.in-Some.tight.some, sided _ _ _ _ _ _ _ _ _ l.fits l.few_transitions c.requires c.climb-p.ensures.reached c.in-Some.ensures)
