-- `rates_text::group` meets its contract: by its tests. Assumes nothing.
use Rattle.std.proofs.Common.{sym, ◌∙◌}
use Rattle.rates_text.specs.Rates.{told_group, group_past, group_far, group_shown}
use Rattle.rates_text.proofs.group.Goals as goal
use Rattle.rates_text.proofs.group.Goals.{then-all-v-via-then-all-v, then-all-v-via-else-all-v+then-v-ge256, then-all-v-via-else-all-v+else-v-ge256+then-earlier}

pub returns-then-all-v : goal.returns-then-all-v
returns-then-all-v c =
    elim c.then-all-v.branch [
      | then-all-v-via-then-all-v w ↦ group_past (told_group c.args.all) c.args.v _ w.if-all-v.true c.nothing.ensures
      | then-all-v-via-else-all-v+then-v-ge256 w ↦ group_far (told_group c.args.all) c.args.v _ w.if-all-v.false w.if-v-ge256.true c.nothing.ensures
      | then-all-v-via-else-all-v+else-v-ge256+then-earlier w ↦
          group_shown (told_group c.args.all) c.args.v _ w.if-all-v.false w.if-v-ge256.false (sym w.earlier.ensures ∙ w.if-earlier.true) c.nothing.ensures
    ]
