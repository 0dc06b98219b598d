-- `rates_text::line::earlier` meets its contract: the first v are asked. Assumes nothing.
use Rattle.std.proofs.Common.{◌∙◌, arith}
use Rattle.rates_text.specs.Rates.{earlier_any}
use Rattle.rates_text.proofs.line.earlier.Goals as goal

pub returns : goal.returns
returns c = let v = c.args.v in c.any_alike.ensures ∙ earlier_any c.args.rates.now v v (omega (arith, c.requires, c.told-rates))
