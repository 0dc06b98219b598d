-- `rates_text::rate` meets its contract: the line is put into a fresh buffer. No loop. Assumes nothing.
use Rattle.std.proofs.Common.{arith}
use Rattle.words.specs.Puts.{puts_then}
use Rattle.words.specs.Held.{holds_put}
use Rattle.rates_text.specs.Rates.{flat}
use Rattle.rates_text.proofs.rate.Goals as goal

pub returns : goal.returns
returns c =
    let words = c.rate_words-at.ensures in
    let end = c.byte-len.ensures in
    record {
      rate = flat c.from-x.result;
      is_rate = rw c.from-x.ensures c.rate_in.ensures;
      is_held = holds_put _ _ _ (puts_then words.0 end) (omega (arith, words.1, end.place));
    }
