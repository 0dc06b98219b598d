-- `bids_text::better_line` meets its contract: one line for each choice. No loop. Assumes nothing.
use Rattle.std.proofs.Common.{sym, ap, arith}
use Rattle.words.specs.Puts.{puts_same}
use Rattle.bids_text.specs.Pair.{better_line_of}
use Rattle.bids_text.proofs.better_line.Goals as goal

pub returns-in-Neither : goal.returns-in-Neither
returns-in-Neither c =
    let put = c.word.ensures in
    (puts_same (sym (ap better_line_of c.in-Neither.is)) put, omega (arith, put.place))

pub returns-in-First : goal.returns-in-First
returns-in-First c =
    let put = c.word-in-First.ensures in
    (puts_same (sym (ap better_line_of c.in-First.is)) put, omega (arith, put.place))

pub returns-in-Second : goal.returns-in-Second
returns-in-Second c =
    let put = c.word-in-Second.ensures in
    (puts_same (sym (ap better_line_of c.in-Second.is)) put, omega (arith, put.place))
