-- `handed::put_columns`: one value more in each column.
use Rattle.std.proofs.Common.{refl}
use Rattle.handed.specs.Steps.{put_next, put_none}
use Rattle.handed.proofs.put_columns.Goals as goal

pub loop-r-init : goal.loop-r-init
loop-r-init c = (put_none _ _, put_none _ _, put_none _ _, put_none _ _, put_none _ _)

pub loop-r-preserved : goal.loop-r-preserved
loop-r-preserved c =
    let l = c.loop-r in (
      put_next _ _ _ _ _ l.invariant.0 refl,
      put_next _ _ _ _ _ l.invariant.1 refl,
      put_next _ _ _ _ _ l.invariant.2 refl,
      put_next _ _ _ _ _ l.invariant.3 c.delay_in.ensures,
      put_next _ _ _ _ _ l.invariant.4 c.known_in.ensures,
    )
