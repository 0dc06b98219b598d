-- `rulefile::put_file` meets its contract: n, m, and the rules. No loop. Assumes nothing.
use Rattle.std.proofs.Common.{refl, sym, ◌∙◌, arith}
use Rattle.rulefile.specs.Steps.{put_fits, put_head}
use Rattle.rulefile.proofs.put_file.Goals as goal

pub overflow_add-at : goal.overflow_add-at
overflow_add-at c =
    let f1 = put_fits _ _ _ _ _ c.put-at.ensures (omega arith) in
    let f2 = put_fits _ _ _ _ _ c.put.ensures (omega arith) in
    omega arith

pub put_rules-requires : goal.put_rules-requires
put_rules-requires c = (c.requires.0, (put_head _ _ _ _ _ _ _ _ refl refl c.requires.1 c.put-at.ensures c.put.ensures).1)

pub returns : goal.returns
returns c = c.put_rules.ensures ∙ sym (put_head _ _ _ _ _ _ _ _ refl refl c.requires.1 c.put-at.ensures c.put.ensures).0
