-- `peel::strike_unentered` meets its contract.
use Rattle.peel.specs.Peeling.{striking_next, striking_ends}
use Rattle.peel.proofs.strike_unentered.Goals as goal

pub loop-done-preserved : goal.loop-done-preserved
loop-done-preserved c = striking_next _ _ _ _ _ _ _ _ c.loop-done.invariant c.loop-done-test.true _ _ _ _ c.strike_next-count.ensures

pub returns : goal.returns
returns c = striking_ends _ _ _ _ _ _ _ _ c.loop-done.invariant c.loop-done-test.false
