-- `search::above::larger` meets its contract.
-- Assumes nothing.
use Rattle.std.proofs.Common.{refl, inl, inr}
use Rattle.search.proofs.above.larger.Goals as goal

pub returns-then-x-y : goal.returns-then-x-y
returns-then-x-y c = inr refl

pub returns-else-x-y : goal.returns-else-x-y
returns-else-x-y c = inl refl
