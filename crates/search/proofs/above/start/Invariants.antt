-- `above::start` meets its contract. The loop's invariant: as many rules as were come to have bid (`Bidding`).
-- Assumes nothing.
use Rattle.columns.specs.Views.{of_filled}
use Rattle.search.specs.Above.{Bidding}
use Rattle.search.proofs.above.start.Given as goal

abbrev pub invariant-loop-rule : goal.invariant-loop-rule
invariant-loop-rule l = Bidding (of_filled l.rules) l.most l.par l.rule-index
