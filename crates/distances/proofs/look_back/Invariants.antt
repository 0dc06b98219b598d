-- `distances::look_back` meets its contract: the rules into t are looked at, and each source not found before is d away.
-- The loop's invariant: so it is of the rules looked at. The measure is the place of the next rule.
-- Where all transitions were found it is so of the rules that are left too.
-- Assumes nothing.
use Rattle.std.proofs.Common.{◌≤◌}
use Rattle.columns.specs.Views.{of_arcs}
use Rattle.peel.specs.Linked.{Points}
use Rattle.distances.specs.Queue.{Looking}
use Rattle.distances.proofs.look_back.Given as goal

abbrev pub invariant-loop-left : goal.invariant-loop-left
invariant-loop-left l =
    record {
      looking : Looking (of_arcs l.arcs) l.arcs.n l.v l.t l.d l.initial.dist l.initial.order l.count l.dist l.order l.found l.left;
      points : Points l.arcs.target.now l.arcs.m l.t l.left;
      rule : l.left ≤ l.arcs.m;
    }

abbrev pub decreases-loop-left : goal.decreases-loop-left
decreases-loop-left l = l.left
