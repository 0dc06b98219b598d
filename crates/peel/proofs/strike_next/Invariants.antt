-- `peel::strike_next` meets its contract: the next transition that waits is struck, and one rule less enters each target of a rule that leaves it.
-- The loop's invariant: so it is of the rules looked at. The measure is the place of the next rule.
-- Assumes nothing.
use Rattle.std.proofs.Common.{◌+◌, ◌≤◌, ◌≡◌, get_or}
use Rattle.columns.specs.Views.{of_arcs}
use Rattle.peel.specs.Linked.{Points}
use Rattle.peel.specs.Peeling.{Spread}
use Rattle.peel.proofs.strike_next.Given as goal

abbrev pub invariant-loop-left : goal.invariant-loop-left
invariant-loop-left l =
    record {
      spread : Spread (of_arcs l.arcs) l.arcs.n l.v l.left l.alive l.entering l.order (l.done + 1) l.waiting;
      points : Points l.arcs.source.now l.arcs.m l.v l.left;
      struck : get_or l.alive l.v 0 ≡ 0;
      rule : l.left ≤ l.arcs.m;
    }

abbrev pub decreases-loop-left : goal.decreases-loop-left
decreases-loop-left l = l.left
