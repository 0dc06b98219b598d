-- Words and lines that more than one text has.
--
--   newline             what ends a line
--   ratio p q           `P/Q`
--   refused_words_of f p    `refused F at P`
--   refused_line_of f p     the same as a line
--   exact_line_of p q       `period P/Q exact`
--   range_line_of p q p' q' `period from P/Q to P/Q`
use Rattle.std.specs.Prelude.{List, ◌++◌, ℕ}
use Rattle.words.specs.Decimal.{ascii, decimal}

abbrev pub newline : List ℕ
newline = ascii "\n"

abbrev pub ratio : ℕ → ℕ → List ℕ
ratio p q = decimal p ++ (ascii "/" ++ decimal q)

abbrev pub refused_words_of : ℕ → ℕ → List ℕ
refused_words_of f p = ascii "refused " ++ (decimal f ++ (ascii " at " ++ decimal p))

abbrev pub refused_line_of : ℕ → ℕ → List ℕ
refused_line_of f p = refused_words_of f p ++ newline

abbrev pub exact_line_of : ℕ → ℕ → List ℕ
exact_line_of p q = ascii "period " ++ (ratio p q ++ (ascii " exact" ++ newline))

abbrev pub range_line_of : ℕ → ℕ → ℕ → ℕ → List ℕ
range_line_of p q p' q' = ascii "period from " ++ (ratio p q ++ (ascii " to " ++ (ratio p' q' ++ newline)))
