-- `search::order::ready` meets its contract.
use Rattle.std.proofs.Common.{arith}
use Rattle.search.specs.Order.{most_zeros}
use Rattle.search.proofs.order.ready.Goals as goal

pub loop-v-init : goal.loop-v-init
loop-v-init c = (omega arith, most_zeros 256 255)
