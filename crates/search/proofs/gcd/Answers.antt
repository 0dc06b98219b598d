-- Of `search::gcd`. Assumes nothing.
use Rattle.std.proofs.Common.{◌≡◌, mod-lt, arith}
use Rattle.theory.specs.Ratio.{gcd_end, gcd_step}
use Rattle.search.proofs.gcd.Goals as goal

pub loop-y-init : goal.loop-y-init
loop-y-init c = λ d g. g

pub loop-y-smaller : goal.loop-y-smaller
loop-y-smaller c = mod-lt c.loop-y.x (omega arith)

pub loop-y-preserved : goal.loop-y-preserved
loop-y-preserved c = λ d g. c.loop-y.invariant d (gcd_step c.loop-y.x c.loop-y.y d (omega arith) g)

pub returns : goal.returns
returns c =
    let done : c.loop-y.y ≡ 0 = omega arith in
    c.loop-y.invariant c.loop-y.x (rw done (gcd_end c.loop-y.x))
