-- `text::lines::list`: a turn of the loop puts one number more.
use Rattle.std.proofs.Common.{[], ◌∷◌, ◌++◌, sym, arith}
use Rattle.words.specs.Decimal.{numbers_append}
use Rattle.words.specs.Puts.{puts_then, puts_same}
use Rattle.text.specs.Made.{listed_next}
use Rattle.text.proofs.lines.list.Goals as goal

pub loop-x-preserved : goal.loop-x-preserved
loop-x-preserved g c =
    let so_far = c.loop-x.invariant in
    let one = c.into.result ∷ [] in
    let number = c.number-next.ensures in (
      so_far.0 ++ one,
      listed_next g.T.Into.converts c.args.xs.now c.loop-x.x-index c.x-item.result so_far.0 c.into.result (omega arith) c.x-item.is so_far.1 c.into.ensures,
      puts_same (sym (numbers_append so_far.0 one)) (puts_then so_far.2 number.0),
      omega (arith, so_far.3, number.1),
    )
