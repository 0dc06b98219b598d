-- One transition more, and the end: all 256 are passed.
use Rattle.std.proofs.Common.{sym, arith}
use Rattle.words.specs.Puts.{puts_none, puts_same}
use Rattle.rates_text.specs.Rates.{rate_told, members_none, members_next}
use Rattle.rates_text.proofs.line.members.Goals as goal

pub loop-k-init : goal.loop-k-init
loop-k-init c = (puts_same (members_none _ _ _) (puts_none _ _), omega arith)

pub loop-k-preserved : goal.loop-k-preserved
loop-k-preserved c =
    let xs = c.args.rates.now in
    let e = c.member-next.ensures in
    (members_next _ _ _ c.loop-k.k _ _ (sym (rate_told xs c.loop-k.k)) (sym (rate_told xs c.args.v)) c.loop-k.invariant.0 e.0, omega (arith, e.1))
