-- The definitions of the text against the paper's own lines. Nothing cites this file: a definition that prints otherwise is refused here.
use Rattle.std.specs.Prelude.{◌≡◌, refl, true, false, [], ◌∷◌}
use Rattle.model.specs.Answer.{Answer}
use Rattle.words.specs.Decimal.{ascii, digits_in, decimal}
use Rattle.words.specs.Lines.{refused_line_of}
use Rattle.text.specs.Text.{period_line_of, answer_text}

-- the answer to P1
abbrev one : Answer
one = record { ends = record { low_p = 7; low_q = 1; high_p = 7; high_q = 1; exact = true }; low_loop = 0 ∷ 1 ∷ []; high_loop = 0 ∷ 1 ∷ []; schedule = 0 ∷ 3 ∷ [] }

-- the ends of P3
abbrev three : Answer
three = record { ends = record { low_p = 3; low_q = 1; high_p = 1000003; high_q = 1; exact = false }; low_loop = 0 ∷ 1 ∷ []; high_loop = 0 ∷ 1 ∷ []; schedule = 0 ∷ 3 ∷ [] }

pub four_lines : answer_text one ≡ ascii "period 7/1 exact\nlow 0 1\nhigh 0 1\nschedule 1 0 3\n"
unfolding decimal digits_in
four_lines = refl

pub range_line_lem : period_line_of three.ends ≡ ascii "period from 3/1 to 1000003/1\n"
unfolding decimal digits_in
range_line_lem = refl

pub refused_line_lem : refused_line_of 5 0 ≡ ascii "refused 5 at 0\n"
unfolding decimal digits_in
refused_line_lem = refl
