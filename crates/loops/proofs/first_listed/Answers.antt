-- `loops::first_listed` meets its contract: the columns of the listed rules are gathered.
-- Assumes nothing.
use Rattle.loops.proofs.first_listed.Goals as goal

pub invariant_of-arcs : goal.invariant_of-arcs
invariant_of-arcs c = record { limits = c.requires.limits _ _ c.gather.ensures c.gather-2.ensures }
