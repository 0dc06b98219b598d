-- `rates_text::transition` meets its contract: the fold is the one that `told_all` tells of. Assumes nothing.
use Rattle.std.proofs.Common.{rules, ◌≡◌, ◌∙◌, fold}
use Rattle.std.proofs.iter.runs.Made.{chains}
use Rattle.rates_text.specs.Rates.{more_told, told_all}
use Rattle.rates_text.proofs.transition.Goals as goal

pub returns : goal.returns
returns c =
    let s = c.args.digits.now in
    let e : c.fold.result ≡ fold more_told 0 s = search (rules, chains) in
    e ∙ told_all s
