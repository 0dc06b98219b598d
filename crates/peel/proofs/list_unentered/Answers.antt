-- `peel::list_unentered` meets its contract.
use Rattle.std.proofs.Common.{◌<◌, arith}
use Rattle.peel.specs.Linked.{row_set}
use Rattle.peel.specs.Peeling.{waiting_none, waiting_skip, waiting_push}
use Rattle.peel.proofs.list_unentered.Goals as goal
use Rattle.peel.proofs.list_unentered.Goals.{then-unentered, else-unentered}

pub loop-v-init : goal.loop-v-init
loop-v-init c = record { row = c.requires.row; waiting = waiting_none _ _ _ }

pub loop-v-preserved : goal.loop-v-preserved
loop-v-preserved c =
    let a = c.args in
    let h = c.loop-v.invariant in
    let room : c.loop-v.count < 256 = omega (arith, h.waiting.few) in
    elim c.if-unentered.branch [
      | then-unentered w ↦
          let t = c.unentered.ensures.0 w.if-unentered.true in
          rw (w.order-is, w.count-is) record {
            row = row_set a.n c.loop-v.order c.loop-v.count c.loop-v.v h.row room c.loop-v-test.true;
            waiting = waiting_push a.alive.now a.entering.now c.loop-v.order c.loop-v.v c.loop-v.count h.waiting h.row.room room t.0 t.1;
          }
      | else-unentered w ↦
          rw (w.order-is, w.count-is) record {
            row = h.row;
            waiting = waiting_skip a.alive.now a.entering.now c.loop-v.order c.loop-v.v c.loop-v.count h.waiting (λ p. cc (c.unentered.ensures.1 p));
          }
    ]
