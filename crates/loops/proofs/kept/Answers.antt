-- `loops::kept` meets its contract.
use Rattle.std.proofs.Common.{◌≡◌, length-set, arith, rules}
use Rattle.loops.specs.Listed.{sift_none, sift_kept, sift_passed}
use Rattle.loops.proofs.kept.Goals as goal
use Rattle.loops.proofs.kept.Goals.{then-keep, else-keep}

pub loop-r-init : goal.loop-r-init
loop-r-init g c = (search rules, sift_none _ _ _)

pub loop-r-preserved : goal.loop-r-preserved
loop-r-preserved g c =
    let l = c.loop-r in
    let h = l.invariant.1 in (
      simp length-set l.invariant.0,
      elim c.if-keep.branch [
        | then-keep w ↦ rw w.len-is (sift_kept _ _ l.rules l.len l.r h (rw w.if-keep.true at c.keep.ensures) (omega (arith, h.few, c.requires.few)))
        | else-keep w ↦ rw w.len-is (sift_passed _ _ l.rules l.len l.r h l.r (rw w.if-keep.false at c.keep.ensures))
      ],
    )

pub returns : goal.returns
returns g c =
    let e : c.loop-r.r ≡ c.args.m = omega arith in
    rw e at c.loop-r.invariant.1
