-- `sevens::number` meets its contract.
-- It is `number_in` with three groups; a value is at most the highest, so that it fits 32 bits.
-- Assumes nothing.
use Rattle.std.proofs.Common.{ap, arith}
use Rattle.sevens.specs.Sevens.{Answer}
use Rattle.sevens.specs.Laws.{number_most}
use Rattle.sevens.proofs.number.Goals as goal

pub overflow_cast-result : goal.overflow_cast-result
overflow_cast-result c = omega (arith, ap (λ (a : Answer). a.value) c.in-Ok.ensures.answer, number_most 3 c.args.bytes.now c.from.result c.from-2.result)
