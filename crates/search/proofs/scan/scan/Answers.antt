-- Of `search::scan::scan`. Assumes nothing.
use Rattle.std.proofs.Common.{sym, ◌∙◌, arith}
use Rattle.search.specs.Scan.{kept_left, kept_right, kept_one, looked_start, looked_next, looked_on, looked_all, sums_low}
use Rattle.search.proofs.scan.scan.Goals.{in-Some+in-Some-best, in-Some+in-None, in_default}
use Rattle.search.proofs.scan.scan.Goals as goal

pub loop-from-init : goal.loop-from-init
loop-from-init c = looked_start _ _ _ _

pub walk_back-met-requires : goal.walk_back-met-requires
walk_back-met-requires c =
    record { valid = c.requires; fresh = looked_next _ _ _ _ _ _ _ _ _ c.loop-from.invariant (omega arith) c.args.rules.now.limits.few_transitions }

pub better-requires-clause-low : goal.better-requires-clause-low
better-requires-clause-low c = sums_low _ _ _ _ _ _ c.loop-from.invariant.sums c.in-Some-best.is c.args.rules.now.limits.few_transitions

pub better-requires-clause-low_2 : goal.better-requires-clause-low_2
better-requires-clause-low_2 c = sums_low _ _ _ _ _ _ c.walk_back-met.ensures.sums c.in-Some.is c.args.rules.now.limits.few_transitions

pub loop-from-preserved : goal.loop-from-preserved
loop-from-preserved c =
    looked_on _ _ _ _ _ _ _ _ _ c.loop-from.invariant (omega arith) _ _ _ _ _ c.walk_back-met.ensures (elim c.match-met.branch [
      | in-Some+in-Some-best w ↦ kept_one w.in-Some-best.is w.in-Some.is w.best-is w.better.ensures
      | in-Some+in-None w ↦ kept_right w.in-Some.is (w.best-is ∙ sym w.in-Some.is)
      | in_default w ↦ kept_left w.in_default.is w.best-is
    ])

pub returns : goal.returns
returns c = looked_all _ _ _ _ _ _ _ _ _ c.loop-from.invariant (omega arith)
