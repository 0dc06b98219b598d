-- `columns::lay`: the columns hold the first r rules.
use Rattle.std.proofs.Common.{◌≡◌}
use Rattle.columns.specs.Lay.{Laid}
use Rattle.columns.proofs.lay.Given as goal

abbrev pub invariant-loop-r : goal.invariant-loop-r
invariant-loop-r l = (l.c.m ≡ l.r) × (l.c.n ≡ l.t.n) × Laid l.t l.r l.c.source l.c.target l.c.offset l.c.least l.c.greatest l.c.blank
