-- `sevens::several` meets its contract.
-- Assumes nothing.
use Rattle.std.proofs.Common.{◌-◌, sym, arith}
use Rattle.sevens.specs.Sevens.{raw_of}
use Rattle.sevens.specs.Steps.{carried_start, carried_cut, carried_zero, carried_last, carried_again, carried_long, turn_fits, scale_again}
use Rattle.sevens.proofs.several.Goals as goal

pub loop-i-init : goal.loop-i-init
loop-i-init c =
    let s = c.args.bytes.now in
    let g = c.args.groups in
    (omega arith, omega arith, omega arith, omega arith, omega arith, carried_start g c.from-value.result s (omega arith))

pub returns-then-bytes-i : goal.returns-then-bytes-i
returns-then-bytes-i c =
    let at = c.loop-i in
    let s = c.args.bytes.now in
    let g = c.args.groups in
    sym (carried_cut (raw_of g s) g at.value at.scale at.i s at.invariant.5 (omega arith))

pub returns-then-b-eq0 : goal.returns-then-b-eq0
returns-then-b-eq0 c =
    let at = c.loop-i in
    let s = c.args.bytes.now in
    let g = c.args.groups in
    sym (carried_zero (raw_of g s) g at.value at.scale at.i s at.invariant.5 c.from-b.result (omega arith))

pub overflow_add-result : goal.overflow_add-result
overflow_add-result c = omega (arith, turn_fits c.args.groups c.loop-i.i c.loop-i.scale c.loop-i.value c.from-b.result (omega arith))

pub returns-then-b-lt128 : goal.returns-then-b-lt128
returns-then-b-lt128 c =
    let at = c.loop-i in
    let s = c.args.bytes.now in
    let g = c.args.groups in
    sym (carried_last (raw_of g s) g at.value at.scale at.i s at.invariant.5 c.from-b.result (omega arith))

pub overflow_add-value : goal.overflow_add-value
overflow_add-value c = omega (arith, turn_fits c.args.groups c.loop-i.i c.loop-i.scale c.loop-i.value (c.from-b.result - 128) (omega arith))

pub overflow_mul-scale : goal.overflow_mul-scale
overflow_mul-scale c = omega (arith, turn_fits c.args.groups c.loop-i.i c.loop-i.scale c.loop-i.value (c.from-b.result - 128) (omega arith))

pub loop-i-preserved : goal.loop-i-preserved
loop-i-preserved c =
    let at = c.loop-i in
    let s = c.args.bytes.now in
    let g = c.args.groups in (
      omega arith,
      omega arith,
      omega arith,
      scale_again at.i at.scale at.invariant.3,
      (turn_fits c.args.groups c.loop-i.i c.loop-i.scale c.loop-i.value (c.from-b.result - 128) (omega arith)).1,
      carried_again (raw_of g s) g at.value at.scale at.i s at.invariant.5 c.from-b.result (omega arith),
    )

pub returns : goal.returns
returns c =
    let at = c.loop-i in
    let s = c.args.bytes.now in
    let g = c.args.groups in
    sym (carried_long (raw_of g s) g at.value at.scale at.i s at.invariant.5 (omega arith))
