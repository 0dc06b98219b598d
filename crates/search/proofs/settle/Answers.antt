-- Of `search::settle`. Assumes nothing.
use Rattle.std.proofs.Common.{arith}
use Rattle.std.proofs.lemmas.Option.{same_Some}
use Rattle.search.specs.Climbing.{settling_zeros, settling_start, settling_ready, settling_carried, settling_scanned, settling_sound, settling_quiet, settling_found, settling_on, query_limits}
use Rattle.search.proofs.settle.Goals as goal

pub follow-requires : goal.follow-requires
follow-requires c = let q = c.requires in settling_zeros q

pub loop-at-init : goal.loop-at-init
loop-at-init c = settling_start c.requires c.follow.ensures

pub carry-requires : goal.carry-requires
carry-requires c =
    let q = c.requires in
    (omega (arith, q.few_rules), settling_ready q c.loop-at.invariant)

pub pass-requires : goal.pass-requires
pass-requires c =
    settling_carried c.requires c.loop-at.invariant c.carry.ensures

pub returns-then-not-pass : goal.returns-then-not-pass
returns-then-not-pass c =
    record { quiet = λ e. settling_quiet c.requires c.loop-at.invariant c.carry.ensures c.pass.ensures c.if-not-pass.true; walk = λ w e. absurd cc }

pub scan-requires : goal.scan-requires
scan-requires c =
    let q = c.requires in
    (settling_sound q c.loop-at.invariant c.carry.ensures c.pass.ensures).valid

pub returns-in-Some : goal.returns-in-Some
returns-in-Some c =
    let found = settling_found c.requires c.loop-at.invariant c.carry.ensures c.pass.ensures c.scan.ensures c.in-Some.is in
    record { quiet = λ e. absurd cc; walk = λ w e. rw (← same_Some _ _ e) found }

pub follow-requires-in-loop-at : goal.follow-requires-in-loop-at
follow-requires-in-loop-at c =
    let q = c.requires in
    settling_scanned q c.loop-at.invariant c.carry.ensures c.pass.ensures

pub overflow_add-k : goal.overflow_add-k
overflow_add-k c =
    omega (arith, c.loop-at.invariant.few_passes, c.requires.few_transitions)

pub loop-at-smaller : goal.loop-at-smaller
loop-at-smaller c =
    omega (arith, c.loop-at.invariant.few_passes)

pub loop-at-preserved : goal.loop-at-preserved
loop-at-preserved c =
    settling_on c.requires c.loop-at.invariant c.carry.ensures c.pass.ensures c.scan.ensures c.if-not-pass.false c.in_default.is c.follow-in-loop-at.ensures
