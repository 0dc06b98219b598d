-- `words::word`: a turn of the loop puts one byte more.
use Rattle.std.proofs.Common.{refl, arith}
use Rattle.words.specs.Puts.{puts_next}
use Rattle.words.proofs.word.Goals as goal

pub loop-b-preserved : goal.loop-b-preserved
loop-b-preserved c = puts_next (λ x. x) c.args.s.now c.loop-b.b-index (λ x. refl) (omega arith) c.loop-b.invariant c.byte-next.ensures
