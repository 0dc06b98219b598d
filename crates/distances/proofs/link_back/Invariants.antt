-- `distances::link_back` meets its contract: the rules into each transition, linked from the last to the first, less those that only repeat the one after them.
-- The loop's invariant: the rules passed are linked.
-- Assumes nothing.
use Rattle.peel.specs.Linked.{Linked}
use Rattle.distances.specs.Links.{SameSource}
use Rattle.distances.proofs.link_back.Given as goal

abbrev pub invariant-loop-r : goal.invariant-loop-r
invariant-loop-r l = Linked (SameSource l.source) l.target l.r l.head l.next
