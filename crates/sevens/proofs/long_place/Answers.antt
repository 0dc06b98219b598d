-- `sevens::long_place` meets its contract: how many of the bytes up to the last that there may be say that another follows. Assumes nothing.
use Rattle.std.proofs.Common.{◌-◌, ◌∙◌, leb, take, rules, tests}
use Rattle.std.proofs.lemmas.Iterator.{YieldsList-from_slice, YieldsList-from_take}
use Rattle.std.proofs.lemmas.Iterator.Consumers.{count_from_yields_List}
use Rattle.std.proofs.lemmas.Iterator.Search.{YieldsList-from_take_while}
use Rattle.std.proofs.lemmas.List.Folds.{length-prefix_len}
use Rattle.sevens.specs.Sevens.{long_place_of}
use Rattle.sevens.specs.Steps.{marked_prefix}
use Rattle.sevens.proofs.long_place.Goals as goal

pub returns : goal.returns
unfolding long_place_of
returns c =
    let s = c.args.bytes.now in
    let n = c.args.groups - 1 in
    count_from_yields_List c.take_while.result _ c.count.ensures.ran
    (YieldsList-from_take_while _ (leb 128) (YieldsList-from_take n (YieldsList-from_slice s cc) cc) c.take_while.ensures.closure c.take_while.ensures.done (λ x b q k. search (rules, tests)))
    ∙ length-prefix_len (leb 128) (take n s)
    ∙ marked_prefix n s
