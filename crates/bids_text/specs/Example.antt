-- The definitions of the text against lines written out. Nothing cites this file: a definition that prints otherwise is refused here.
use Rattle.std.specs.Prelude.{◌≡◌, refl, true, false}
use Rattle.bids.specs.declared.Choice.TheVariants.{Neither, First}
use Rattle.bids.specs.Promise.{Bid, refused_bid, ratio}
use Rattle.words.specs.Decimal.{ascii, digits_in, decimal}
use Rattle.bids_text.specs.Pair.{pair_text}

-- a bid with the table of P1
abbrev one : Bid
one = record { refusal = 0; place = 0; exact = true; low = ratio 7 1; high = ratio 7 1 }

-- and one with that of P3
abbrev three : Bid
three = record { refusal = 0; place = 0; exact = false; low = ratio 3 1; high = ratio 1000003 1 }

pub three_lines : pair_text (record { first = one; second = three; choice = First }) ≡ ascii "first period 7/1 exact\nsecond period from 3/1 to 1000003/1\nbetter first\n"
unfolding decimal digits_in
three_lines = refl

pub neither_lines : pair_text (record { first = refused_bid 5 0; second = refused_bid 4 12; choice = Neither }) ≡ ascii "first refused 5 at 0\nsecond refused 4 at 12\nbetter neither\n"
unfolding decimal digits_in
neither_lines = refl
