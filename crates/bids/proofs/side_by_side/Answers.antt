-- `bids::side_by_side`: the ends of an analysed bid are small (`told_small`). Assumes nothing.
use Rattle.bids.specs.Steps.{told_small}
use Rattle.bids.proofs.side_by_side.Goals as goal

pub chosen-requires : goal.chosen-requires
chosen-requires c = (told_small _ _ c.ends-first.ensures, told_small _ _ c.ends-second.ensures)
