-- Numbers in groups of seven bits, lowest group first; the top bit of a byte is set when another group follows.
--
--   pick t a b              a where the test t holds, b where it does not
--   followed b x            what a byte b, whose top bit is set, comes to before x
--   raw_of g s               the number at the front of the bytes s, of at most g groups: Cut, Long, or Value with its value and its size in bytes
--   cut_place_of, long_place_of     where refusals 1 and 2 of such a number are placed; marked k s: how many of the first k bytes have their top bit set, before one has not
--   Answer                  what reading a number hands back
--   refused number at       a refusal; accepted value rest: an acceptance
--   limited g s low high x  the answer, where x is what stands at the front of s
--   number_of g s low high   the answer about the number at the front of s, which is to be from low to high
--   answer_told s x         the same answer, from the code's own result x: a refusal, or the value and its size in bytes
--   value_told x            the value that x hands back, or 0 beside a refusal
--   Read                    what reading a number promises
--   code_in, code_of v        the bytes of v, with the fewest groups; code_length_of v: how many these are
--   Put, put_of v out at     what writing v into out at the place `at` promises
--   Bytes s                 every element of s is a byte
use Rattle.std.specs.Prelude.{ℕ, zero, suc, ◌+◌, ◌-◌, ◌*◌, ◌/◌, ◌%◌, ◌<◌, Bool, true, false, List, [], ◌∷◌, ◌≡◌, length, get_or, drop, ltb, leb, Result, Ok, Err}
use Rattle.std.proofs.lemmas.List.Edits.{sets}
use Rattle.refusals.specs.declared.Refusal.{Refusal}
use Rattle.refusals.specs.Number.{number_of as number_of_why}
use Rattle.sevens.specs.declared.Raw.{Raw}
use Rattle.sevens.specs.declared.Raw.TheVariants.{Cut, Long, Value}

-- one of two, by a test
abbrev pub pick : {A : Type 0} → Bool → A → A → A
pick true a b = a
pick false a b = b

-- ---- a number as written

-- a byte b that says another group follows, before what stands after it: a last group of zero is wrong there
unfoldable pub followed : ℕ → Raw → Raw
followed b Cut = Cut
followed b Long = Long
followed b (Value zero size) = Long
followed b (Value (suc v) size) = Value (b - 128 + 128 * suc v) (size + 1)

-- the number at the front of some bytes, where g groups are left: with none left it is too long, with no byte left it is cut
unfoldable pub raw_of : ℕ → List ℕ → Raw
raw_of zero s = Long
raw_of (suc g) [] = Cut
raw_of (suc g) (b ∷ s) = pick (ltb b 128) (Value b 1) (followed b (raw_of g s))

-- ---- a number within limits

-- refusal 1 stands after the last byte lent, where the missing one would be
unfoldable pub cut_place_of : ℕ → List ℕ → ℕ
cut_place_of g s = length s

-- how many of the first k bytes, from the front on, have their top bit set
unfoldable pub marked : ℕ → List ℕ → ℕ
marked zero s = 0
marked (suc k) [] = 0
marked (suc k) (b ∷ s) = pick (ltb b 128) 0 (suc (marked k s))

-- refusal 2 stands at the byte that breaks the rule: the g-th where its top bit is set (then it is after g - 1 such bytes),
-- otherwise the last group, which is zero (`long_byte` says both)
unfoldable pub long_place_of : ℕ → List ℕ → ℕ
long_place_of g s = marked (g - 1) s

-- the value, the number of the refusal or 0, its place, and the bytes not yet read
pub record Answer : Type 0 where
  pub value : ℕ
  pub refusal : ℕ
  pub place : ℕ
  pub rest : List ℕ

-- a refusal hands back its number and place, and nothing else
abbrev pub refused : ℕ → ℕ → Answer
refused number at = record { value = 0; refusal = number; place = at; rest = [] }

-- an acceptance hands back the value and the rest
abbrev pub accepted : ℕ → List ℕ → Answer
accepted v r = record { value = v; refusal = 0; place = 0; rest = r }

-- a missing byte is 1, a number not written as it should be 2, a value outside its limits 3
unfoldable pub limited : ℕ → List ℕ → ℕ → ℕ → Raw → Answer
limited g s low high Cut = refused 1 (cut_place_of g s)
limited g s low high Long = refused 2 (long_place_of g s)
limited g s low high (Value v size) =
    pick (ltb v low) (refused 3 0)
    (pick (ltb high v) (refused 3 0)
    (accepted v (drop size s)))

-- the number at the front of s, of at most g groups, which is to be from low to high
unfoldable pub number_of : ℕ → List ℕ → ℕ → ℕ → Answer
number_of g s low high = limited g s low high (raw_of g s)

-- what the code hands back of the bytes s, as an answer
abbrev pub answer_told : List ℕ → Result (ℕ × ℕ) Refusal → Answer
answer_told s (Ok x) = accepted x.0 (drop x.1 s)
answer_told s (Err e) = refused (number_of_why e.why) e.place

-- a refusal hands back no value
abbrev pub value_told : Result ℕ Refusal → ℕ
value_told (Ok v) = v
value_told (Err e) = 0

-- what reading promises of the bytes s lent at `from` and the part r handed back at `to`: the answer, and that the part is
-- the empty one at the start of s where it is refused, and the end of s where it is accepted
pub record Read (g : ℕ) (s : List ℕ) (low high value refusal place : ℕ) (r : List ℕ) (from to : ℕ × ℕ) : Type 0 where
  pub answer : number_of g s low high ≡ record { value = value; refusal = refusal; place = place; rest = r }
  pub at_start : 0 < refusal → to ≡ from
  pub at_end : refusal ≡ 0 → (to.0 ≡ from.0) × (to.1 ≡ from.1 + (length s - length r))

-- ---- writing a number

-- the bytes of v in at most g + 1 groups, of which the last holds what is left (the `let` has them computed only where they are wanted)
unfoldable pub code_in : ℕ → ℕ → List ℕ
code_in zero v = v ∷ []
code_in (suc g) v =
    let higher = code_in g (v / 128) in
    pick (ltb v 128) (v ∷ []) ((v % 128 + 128) ∷ higher)

-- the bytes of v with the fewest groups: v itself bounds their number (`code_last` and `code_more` are the plain equations)
unfoldable pub code_of : ℕ → List ℕ
code_of v = code_in v v

-- the bytes that v takes
abbrev pub code_length_of : ℕ → ℕ
code_length_of v = length (code_of v)

-- the buffer after writing, and how many bytes were written
pub record Put : Type 0 where
  pub buffer : List ℕ
  pub count : ℕ

-- v written into out from the place `at` on; where there is no room for all of it, nothing is
unfoldable pub put_of : ℕ → List ℕ → ℕ → Put
put_of v out at =
    pick (leb (at + code_length_of v) (length out))
    (record { buffer = sets out at (code_of v); count = code_length_of v })
    (record { buffer = out; count = 0 })

-- ---- bytes

-- every element is below 256, as those of a slice of bytes are
abbrev pub Bytes : List ℕ → Type 0
Bytes s = (k : ℕ) → get_or s k 0 < 256
