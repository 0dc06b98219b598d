-- `rates_text::group_line` meets its contract: the line is put into a fresh buffer. No loop. Assumes nothing.
use Rattle.std.proofs.Common.{sym, ap, arith}
use Rattle.words.specs.Puts.{puts_then, puts_same}
use Rattle.words.specs.Held.{holds_put}
use Rattle.rates_text.specs.Rates.{rate_words_of, rate_told}
use Rattle.rates_text.proofs.group_line.Goals as goal

pub returns : goal.returns
returns c =
    let words = c.rate_words-a.ensures in
    let of = c.word-b.ensures in
    let members = c.members-c.ensures in
    let end = c.byte-len.ensures in
    holds_put _ _ _ (puts_then (puts_same (ap rate_words_of (sym (rate_told c.args.all.now.rates c.args.v))) words.0) (puts_then of (puts_then members.0 end))) (omega (arith, words.1, of.place, members.1, end.place))
