-- Of `search::climb`. Assumes nothing.
use Rattle.std.proofs.Common.{sym, ap, ◌∙◌}
use Rattle.std.proofs.lemmas.Bool.{false≢true}
use Rattle.std.specs.Prelude.{is_some}
use Rattle.search.specs.Climbing.{rising_start, rising_query, rising_end, walk_loop, walk_turns, rising_walk, rising_less}
use Rattle.search.proofs.climb.Goals.{in-Some, in-None}
use Rattle.search.proofs.climb.Goals as goal

pub quotient-ratio-requires : goal.quotient-ratio-requires
quotient-ratio-requires c =
    walk_turns c.requires c.args.rules.now.limits.few_transitions (c.start-first.ensures c.in-Some.walk c.in-Some.is)

pub loop-walk-init : goal.loop-walk-init
loop-walk-init c =
    elim c.match-first.branch [
      | in-Some w ↦
          (let low = c.start-first.ensures w.in-Some.walk w.in-Some.is in
          (rw w.ratio-is (rising_walk c.requires c.args.rules.now.limits.few_transitions low w.quotient-ratio.ensures), λ z. walk_loop c.requires c.args.rules.now.limits.few_transitions low))
      | in-None w ↦ (rw w.ratio-is rising_start, λ z. absurd (false≢true (sym (c.is_some-found.ensures ∙ ap is_some w.in-None.is) ∙ z)))
    ]

pub returns-clause-reached : goal.returns-clause-reached
returns-clause-reached c =
    rising_end c.loop-walk.invariant.0 (c.settle.ensures.quiet c.in_default.is) (rising_query c.args.rules.now.delay.now c.args.rules.now.limits c.args.rules.now.short c.loop-walk.invariant.0)

pub quotient-ratio-requires-in-Some-settle : goal.quotient-ratio-requires-in-Some-settle
quotient-ratio-requires-in-Some-settle c =
    walk_turns c.requires c.args.rules.now.limits.few_transitions (c.settle.ensures.walk c.in-Some-settle.walk c.in-Some-settle.is).walk

pub loop-walk-smaller : goal.loop-walk-smaller
loop-walk-smaller c =
    let end = (c.settle.ensures.walk c.in-Some-settle.walk c.in-Some-settle.is) in
    rising_less c.requires c.args.rules.now.limits.few_transitions end.walk c.quotient-ratio-in-Some-settle.ensures c.loop-walk.invariant.0 end.above

pub loop-walk-preserved : goal.loop-walk-preserved
loop-walk-preserved c =
    let w = (c.settle.ensures.walk c.in-Some-settle.walk c.in-Some-settle.is).walk in
    (rising_walk c.requires c.args.rules.now.limits.few_transitions w c.quotient-ratio-in-Some-settle.ensures, λ z. walk_loop c.requires c.args.rules.now.limits.few_transitions w)
