-- `ends::ends` meets its contract: one end with the least delays, the other with the greatest; without blanks they are one.
-- Assumes nothing.
use Rattle.std.proofs.Common.{◌≡◌, Some, rules}
use Rattle.engine.specs.Lap.{ranges_in}
use Rattle.rates.specs.Rate.{paced_columns, paced_same, ends_met}
use Rattle.rates.proofs.ends.ends.Goals as goal

pub returns-then-not-c : goal.returns-then-not-c
returns-then-not-c c =
    let C = c.args.c.now in
    let is : c.one_end.result ≡ Some c.in_ok-low.low = search rules in
    let low = paced_columns C c.low.result c.low.ensures.columns C.least c.low.ensures.delay c.low.ensures.sized (Some c.in_ok-low.low) (rw is at c.one_end.ensures) in
    ends_met _ (ranges_in C.least C.greatest) c.in_ok-low.low c.in_ok-low.low _ low (paced_same _ _ _ (C.ordered.no_blank c.if-not-c.true) (Some c.in_ok-low.low) low) c.met.ensures

pub returns : goal.returns
returns c =
    let C = c.args.c.now in
    let is : c.one_end.result ≡ Some c.in_ok-low.low = search rules in
    let are : c.one_end-2.result ≡ Some c.in_ok-high.high = search rules in
    let low = paced_columns C c.low.result c.low.ensures.columns C.least c.low.ensures.delay c.low.ensures.sized (Some c.in_ok-low.low) (rw is at c.one_end.ensures) in
    let high = paced_columns C c.high.result c.high.ensures.columns C.greatest c.high.ensures.delay c.high.ensures.sized (Some c.in_ok-high.high) (rw are at c.one_end-2.ensures) in
    ends_met _ (ranges_in C.least C.greatest) c.in_ok-low.low c.in_ok-high.high _ low high c.met-2.ensures
