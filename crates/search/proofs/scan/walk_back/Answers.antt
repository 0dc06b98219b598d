-- Of `search::scan::walk_back`. Assumes nothing.
use Rattle.std.proofs.Common.{arith}
use Rattle.columns.specs.Views.{of_filled, delays_of}
use Rattle.search.specs.Scan.{ready, walking_start, turn, sums_rise, walked_loop, walked_root, walked_met}
use Rattle.search.proofs.scan.walk_back.Goals as goal

pub loop-stamp-init : goal.loop-stamp-init
loop-stamp-init c =
    let g = c.args in
    walking_start (of_filled g.rules.now) (delays_of g.rules.now) g.rules.now.n g.par.now
    g.from g.number g.stamp.now g.delays.now g.offsets.now c.requires.fresh

pub returns-then-code-eq0 : goal.returns-then-code-eq0
returns-then-code-eq0 c =
    let g = c.args in
    walked_root (of_filled g.rules.now) (delays_of g.rules.now) g.rules.now.n g.par.now
    g.from g.number g.stamp.now c.loop-stamp.stamp c.loop-stamp.delays c.loop-stamp.offsets c.loop-stamp.v c.loop-stamp.a c.loop-stamp.e c.loop-stamp.invariant
    c.requires.fresh.above (omega arith)

pub offset_bounds-rules-r : goal.offset_bounds-rules-r
offset_bounds-rules-r c = omega (arith, (turn _ _ _ _ (ready _ _ _ _ _ _ _ (c.args.rules.now.limits, c.args.rules.now.short, c.requires.valid)) _ _ _ _ _ c.requires.fresh _ _ _ _ _ _ _ c.loop-stamp.invariant c.loop-stamp-test.true c.from-code.ensures (omega arith)).is_rule)

pub bounds-rules-r : goal.bounds-rules-r
bounds-rules-r c = omega (arith, (turn _ _ _ _ (ready _ _ _ _ _ _ _ (c.args.rules.now.limits, c.args.rules.now.short, c.requires.valid)) _ _ _ _ _ c.requires.fresh _ _ _ _ _ _ _ c.loop-stamp.invariant c.loop-stamp-test.true c.from-code.ensures (omega arith)).is_rule)

pub overflow_add-a : goal.overflow_add-a
overflow_add-a c = omega (arith, (turn _ _ _ _ (ready _ _ _ _ _ _ _ (c.args.rules.now.limits, c.args.rules.now.short, c.requires.valid)) _ _ _ _ _ c.requires.fresh _ _ _ _ _ _ _ c.loop-stamp.invariant c.loop-stamp-test.true c.from-code.ensures (omega arith)).delay_fits)

pub offset_bounds-rules-r-in-loop-stamp : goal.offset_bounds-rules-r-in-loop-stamp
offset_bounds-rules-r-in-loop-stamp c = omega (arith, (turn _ _ _ _ (ready _ _ _ _ _ _ _ (c.args.rules.now.limits, c.args.rules.now.short, c.requires.valid)) _ _ _ _ _ c.requires.fresh _ _ _ _ _ _ _ c.loop-stamp.invariant c.loop-stamp-test.true c.from-code.ensures (omega arith)).is_rule)

pub bounds-rules-r-in-loop-stamp : goal.bounds-rules-r-in-loop-stamp
bounds-rules-r-in-loop-stamp c = omega (arith, (turn _ _ _ _ (ready _ _ _ _ _ _ _ (c.args.rules.now.limits, c.args.rules.now.short, c.requires.valid)) _ _ _ _ _ c.requires.fresh _ _ _ _ _ _ _ c.loop-stamp.invariant c.loop-stamp-test.true c.from-code.ensures (omega arith)).is_rule)

pub overflow_add-e : goal.overflow_add-e
overflow_add-e c = omega (arith, (turn _ _ _ _ (ready _ _ _ _ _ _ _ (c.args.rules.now.limits, c.args.rules.now.short, c.requires.valid)) _ _ _ _ _ c.requires.fresh _ _ _ _ _ _ _ c.loop-stamp.invariant c.loop-stamp-test.true c.from-code.ensures (omega arith)).offset_fits)

pub offset_bounds-rules-r-in-loop-stamp-2 : goal.offset_bounds-rules-r-in-loop-stamp-2
offset_bounds-rules-r-in-loop-stamp-2 c = omega (arith, (turn _ _ _ _ (ready _ _ _ _ _ _ _ (c.args.rules.now.limits, c.args.rules.now.short, c.requires.valid)) _ _ _ _ _ c.requires.fresh _ _ _ _ _ _ _ c.loop-stamp.invariant c.loop-stamp-test.true c.from-code.ensures (omega arith)).is_rule)

pub bounds-rules-r-in-loop-stamp-2 : goal.bounds-rules-r-in-loop-stamp-2
bounds-rules-r-in-loop-stamp-2 c = omega (arith, (turn _ _ _ _ (ready _ _ _ _ _ _ _ (c.args.rules.now.limits, c.args.rules.now.short, c.requires.valid)) _ _ _ _ _ c.requires.fresh _ _ _ _ _ _ _ c.loop-stamp.invariant c.loop-stamp-test.true c.from-code.ensures (omega arith)).is_rule)

pub loop-stamp-smaller : goal.loop-stamp-smaller
loop-stamp-smaller c =
    (turn _ _ _ _ (ready _ _ _ _ _ _ _ (c.args.rules.now.limits, c.args.rules.now.short, c.requires.valid)) _ _ _ _ _ c.requires.fresh _ _ _ _ _ _ _ c.loop-stamp.invariant c.loop-stamp-test.true c.from-code.ensures (omega arith)).less

pub loop-stamp-preserved : goal.loop-stamp-preserved
loop-stamp-preserved c =
    (turn _ _ _ _ (ready _ _ _ _ _ _ _ (c.args.rules.now.limits, c.args.rules.now.short, c.requires.valid)) _ _ _ _ _ c.requires.fresh _ _ _ _ _ _ _ c.loop-stamp.invariant c.loop-stamp-test.true c.from-code.ensures (omega arith)).on c.from-v.result c.from-v.ensures

pub overflow_sub-a : goal.overflow_sub-a
overflow_sub-a c =
    let g = c.args in
    (sums_rise (of_filled g.rules.now) (delays_of g.rules.now) g.rules.now.n g.par.now
    g.from g.number g.stamp.now c.loop-stamp.stamp c.loop-stamp.delays c.loop-stamp.offsets c.loop-stamp.v c.loop-stamp.a c.loop-stamp.e c.loop-stamp.invariant
    c.if-stamp-v.false).0

pub overflow_sub-e : goal.overflow_sub-e
overflow_sub-e c =
    let g = c.args in
    (sums_rise (of_filled g.rules.now) (delays_of g.rules.now) g.rules.now.n g.par.now
    g.from g.number g.stamp.now c.loop-stamp.stamp c.loop-stamp.delays c.loop-stamp.offsets c.loop-stamp.v c.loop-stamp.a c.loop-stamp.e c.loop-stamp.invariant
    c.if-stamp-v.false).1

pub returns : goal.returns
returns c =
    let g = c.args in
    walked_loop (of_filled g.rules.now) (delays_of g.rules.now) g.rules.now.n g.par.now
    g.from g.number g.stamp.now c.loop-stamp.stamp c.loop-stamp.delays c.loop-stamp.offsets c.loop-stamp.v c.loop-stamp.a c.loop-stamp.e c.loop-stamp.invariant
    c.requires.fresh.above c.if-stamp-v.false c.from.result c.from-2.result c.from.ensures c.from-2.ensures

pub returns-then-stamp-v : goal.returns-then-stamp-v
returns-then-stamp-v c =
    let g = c.args in
    walked_met (of_filled g.rules.now) (delays_of g.rules.now) g.rules.now.n g.par.now
    g.from g.number g.stamp.now c.loop-stamp.stamp c.loop-stamp.delays c.loop-stamp.offsets c.loop-stamp.v c.loop-stamp.a c.loop-stamp.e c.loop-stamp.invariant
    c.requires.fresh.above (omega arith) c.if-stamp-v.true
