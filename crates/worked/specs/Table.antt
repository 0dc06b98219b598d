-- ALL THAT WAS WORKED BY HAND, P1 to P10, as one table, and one theorem: what the paper says is what the definitions say.
--
--   Refused          == bytes that are no rule file, with the refusal and its place
--   Line, Right      == a line of the table, and what it claims: a lap, or a refused file
--   lines            the table
--   worked           THE THEOREM
use Rattle.std.specs.Prelude.{◌≡◌, refl, List, [], ◌∷◌, ℕ}
use Rattle.sevens.specs.Sevens.{raw_of, followed, number_of, limited, cut_place_of, marked, long_place_of}
use Rattle.rulefile.specs.File.{num_at, and_then, rules_from_of, read_of, refused_read}
use Rattle.laps.specs.Lists.{Lap}
use Rattle.laps.specs.Lists as laps
use Rattle.laps.specs.Laps.{lap_1, lap_2, lap_3, lap_4, lap_5, lap_6, lap_7, lap_8, lap_9, line_1, line_2, line_3, line_4, line_5, line_6, line_7, line_8, line_9}

pub record Refused : Type 0 where
  pub bytes : List ℕ
  pub refusal : ℕ
  pub place : ℕ

abbrev refuses : List ℕ → ℕ → ℕ → Refused
refuses bytes refusal place = record { bytes = bytes; refusal = refusal; place = place }

pub data Line : Type 0 where
  lap : Lap → Line
  refused : Refused → Line

abbrev pub Right : Line → Type 0
Right (lap l) = laps.Right l
Right (refused f) = read_of f.bytes ≡ refused_read f.refusal f.place

abbrev pub AllRight : List Line → Type 0
AllRight [] = Unit {0}
AllRight (l ∷ ls) = Right l × AllRight ls

-- the laps stand in full in the crate `laps`
abbrev pub lines : List Line
lines =
    lap lap_1
    ∷ lap lap_2
    ∷ lap lap_3
    ∷ lap lap_4
    ∷ lap lap_5
    ∷ lap lap_6
    ∷ lap lap_7
    ∷ lap lap_8
    ∷ lap lap_9
    ∷ refused (refuses (128 ∷ []) 1 1)
    ∷ refused (refuses (128 ∷ 0 ∷ []) 2 1)
    ∷ refused (refuses (128 ∷ 128 ∷ 128 ∷ []) 2 2)
    ∷ refused (refuses (0 ∷ []) 3 0)
    ∷ refused (refuses (1 ∷ 0 ∷ 0 ∷ []) 4 2)
    ∷ refused (refuses (128 ∷ 128 ∷ 0 ∷ []) 2 2)
    ∷ refused (refuses (1 ∷ 128 ∷ []) 1 2)
    ∷ []

-- P10, computed by the definition
file_1 : Right (refused (refuses (128 ∷ []) 1 1))
unfolding read_of num_at and_then raw_of followed number_of limited cut_place_of marked long_place_of
file_1 = refl

file_2 : Right (refused (refuses (128 ∷ 0 ∷ []) 2 1))
unfolding read_of num_at and_then raw_of followed number_of limited cut_place_of marked long_place_of
file_2 = refl

file_3 : Right (refused (refuses (128 ∷ 128 ∷ 128 ∷ []) 2 2))
unfolding read_of num_at and_then raw_of followed number_of limited cut_place_of marked long_place_of
file_3 = refl

file_4 : Right (refused (refuses (0 ∷ []) 3 0))
unfolding read_of num_at and_then raw_of followed number_of limited cut_place_of marked long_place_of
file_4 = refl

file_5 : Right (refused (refuses (1 ∷ 0 ∷ 0 ∷ []) 4 2))
unfolding read_of num_at and_then rules_from_of raw_of followed number_of limited cut_place_of marked long_place_of
file_5 = refl

-- the third byte as the last, zero group, and a number cut that is not the first
file_6 : Right (refused (refuses (128 ∷ 128 ∷ 0 ∷ []) 2 2))
unfolding read_of num_at and_then raw_of followed number_of limited cut_place_of marked long_place_of
file_6 = refl

file_7 : Right (refused (refuses (1 ∷ 128 ∷ []) 1 2))
unfolding read_of num_at and_then raw_of followed number_of limited cut_place_of marked long_place_of
file_7 = refl

-- ALL THAT WAS WORKED BY HAND
pub worked : AllRight lines
worked = (line_1, (line_2, (line_3, (line_4, (line_5, (line_6, (line_7, (line_8, (line_9, (file_1, (file_2, (file_3, (file_4, (file_5, (file_6, (file_7, tt))))))))))))))))
