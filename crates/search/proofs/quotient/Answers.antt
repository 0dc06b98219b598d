-- `search::quotient` meets its contract: the quotients by the greatest common divisor are in lowest terms.
-- Assumes nothing.
use Rattle.theory.specs.Ratio.{gcd_quotients}
use Rattle.search.specs.Climbing.{quotient_divides}
use Rattle.search.proofs.quotient.Goals as goal

pub nonzero_div-result : goal.nonzero_div-result
nonzero_div-result c = quotient_divides c.requires c.gcd-d.ensures

pub nonzero_div-result-2 : goal.nonzero_div-result-2
nonzero_div-result-2 c = quotient_divides c.requires c.gcd-d.ensures

pub returns : goal.returns
returns c = (_, gcd_quotients _ _ _ c.requires c.gcd-d.ensures)
