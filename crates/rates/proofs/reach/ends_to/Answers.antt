-- `reach::ends_to` meets its contract: where every transition reaches v, all rules are those whose targets do, and the ends of their periods are the
-- rate's (`rated_to`); else they are gathered. Assumes nothing.
use Rattle.std.proofs.Common.{refl}
use Rattle.rates.specs.Rate.{rated_to}
use Rattle.rates.specs.Reach.{limits_plain, sought_columns, gathers_as_they_are}
use Rattle.rates.proofs.reach.ends_to.Goals as goal

pub returns-then-c-far : goal.returns-then-c-far
returns-then-c-far c =
    let C = c.args.c.now in
    let far = sought_columns C c.rules.result c.arcs.result c.rules.ensures.columns c.rules.ensures.sized c.arcs.ensures _ _ _ c.distances_to-far.ensures in
    let all = gathers_as_they_are _ _ _ _ _ (limits_plain _ _ _ _ _ C.limits) _ _ far C.offset c.if-c-far.true in
    rated_to _ _ _ _ _ (λ r. r) all (λ j b. refl) (λ j b. refl) _ c.ends.ensures

pub ends_gathered-requires : goal.ends_gathered-requires
ends_gathered-requires c =
    (c.requires.0, sought_columns c.args.c.now c.rules.result c.arcs.result c.rules.ensures.columns c.rules.ensures.sized c.arcs.ensures _ _ _ c.distances_to-far.ensures)
