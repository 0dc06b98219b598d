-- `reach::ends_gathered` meets its contract: the rules gathered are those whose targets reach v, and the ends of their periods are the rate's
-- (`rated_to`). Assumes nothing.
use Rattle.theory.specs.Gather.{live_gathered}
use Rattle.rates.specs.Rate.{rated_to}
use Rattle.rates.specs.Reach.{limits_plain, gathers}
use Rattle.rates.proofs.reach.ends_gathered.Goals as goal

pub ends-requires : goal.ends-requires
ends-requires c =
    let near = gathers _ _ _ _ _ (limits_plain _ _ _ _ _ c.args.c.now.limits) _ _ c.requires.1 _ _ _ _ _ _ _ _ _ c.gather.ensures in
    live_gathered _ _ _ _ near c.requires.0

pub returns : goal.returns
returns c =
    let taken = c.gather.ensures in
    let near = gathers _ _ _ _ _ (limits_plain _ _ _ _ _ c.args.c.now.limits) _ _ c.requires.1 _ _ _ _ _ _ _ _ _ taken in
    rated_to _ _ _ _ _ _ near taken.leasts.1 taken.greatests.1 _ c.ends.ensures
