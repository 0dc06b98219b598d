-- `bids_text::bid_line` meets its contract: a name, and the line for a refusal, an exact period or a range. No loop. Assumes nothing.
use Rattle.std.proofs.Common.{◌≡◌, false, Ok, Err, arith}
use Rattle.refusals.specs.Number.{number_positive}
use Rattle.bids.specs.Promise.{told_bid}
use Rattle.words.specs.Puts.{puts_then, puts_same}
use Rattle.bids_text.specs.Pair.{line_refused, line_exact, line_range}
use Rattle.bids_text.proofs.bid_line.Goals as goal

pub returns-in-Err : goal.returns-in-Err
returns-in-Err c =
    let name = c.word-a.ensures in
    let put = rw c.number.ensures at c.refused_line.ensures in
    let line = line_refused (told_bid (Err c.in-Err.e)) (number_positive _) in
    rw c.in-Err.is (puts_then name (puts_same line put.0), omega (arith, name.place, put.1))

pub returns-in-Ok : goal.returns-in-Ok
returns-in-Ok c =
    let name = c.word-a.ensures in
    let put = c.exact_line.ensures in
    let line = line_exact (told_bid (Ok c.in-Ok.b)) (omega arith) c.if-b.true in
    rw c.in-Ok.is (puts_then name (puts_same line put.0), omega (arith, name.place, put.1))

pub returns-in-Ok-2 : goal.returns-in-Ok-2
returns-in-Ok-2 c =
    let name = c.word-a.ensures in
    let put = c.range_line.ensures in
    let apart : (told_bid c.args.bid).exact ≡ false = rw c.in-Ok.is c.if-b.false in
    let line = line_range (told_bid (Ok c.in-Ok-2.b)) (omega arith) (rw c.in-Ok-2.is at apart) in
    rw c.in-Ok-2.is (puts_then name (puts_same line put.0), omega (arith, name.place, put.1))
