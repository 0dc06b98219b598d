-- `search::order::link` meets its contract.
use Rattle.search.specs.Order.{most_zeros}
use Rattle.search.proofs.order.link.Goals as goal

pub loop-r-init : goal.loop-r-init
loop-r-init c = (most_zeros 256 _, most_zeros 2048 _, most_zeros 256 _)
