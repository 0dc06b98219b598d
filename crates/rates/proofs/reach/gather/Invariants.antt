-- `reach::gather` meets its contract. The loop's invariant: of the rules passed, those near v were taken (`Taken`). Assumes nothing.
use Rattle.std.proofs.Common.{◌≡◌}
use Rattle.rates.specs.Reach.{Taken}
use Rattle.rates.proofs.reach.gather.Given as goal

abbrev pub invariant-loop-r : goal.invariant-loop-r
invariant-loop-r l =
    (l.kept.n ≡ l.c.n) × Taken l.c.source l.c.target l.c.offset l.c.least l.c.greatest l.v l.dist l.r l.kept.source l.kept.target l.kept.offset l.kept.least l.kept.greatest l.kept.m
