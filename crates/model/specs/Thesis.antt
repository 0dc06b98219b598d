-- Document 000's words, to which the definitions above are tied by theorems.
--
--   Linear S D P Q X     == X + P i, over Q, is a linear timing function: (2.4) at every occurrence i
--   OwnRates S D n p Q   == p v over Q is the rate of transition v, for each of n; and 0 where no loop reaches v
--   LinearRates S D p Q X == X v + p v i, over Q, is a linear timing function in which v has the cycle period p v: (2.4), (2.5)
--   Timing S D N n t     == t is a timing function for the first N occurrences of n transitions: (2.1)
use Rattle.std.specs.Prelude.{◌≡◌, ◌⊎◌, ℕ, ◌+◌, ◌*◌, ◌-◌, ◌≤◌, ◌<◌, List, get_or}
use Rattle.model.specs.Shape.{Shape}
use Rattle.model.specs.Rate.{NoLoopTo, Rate}
use Rattle.model.specs.Times.{Acts, asked}

abbrev pub Linear : Shape → (ℕ → ℕ) → ℕ → ℕ → List ℕ → Type 0
Linear S D P Q X = (r i : ℕ) → r < S.rules → S.offset r ≤ i → get_or X (S.source r) 0 + P * (i - S.offset r) + Q * D r ≤ get_or X (S.target r) 0 + P * i

abbrev pub OwnRates : Shape → (ℕ → ℕ) → ℕ → (ℕ → ℕ) → ℕ → Type 0
OwnRates S D n p Q = (v : ℕ) → v < n → Rate S D v (p v) Q ⊎ (NoLoopTo S v × (p v ≡ 0))

abbrev pub LinearRates : Shape → (ℕ → ℕ) → (ℕ → ℕ) → ℕ → List ℕ → Type 0
LinearRates S D p Q X =
    (r i : ℕ) → r < S.rules → S.offset r ≤ i → get_or X (S.source r) 0 + p (S.source r) * (i - S.offset r) + Q * D r ≤ get_or X (S.target r) 0 + p (S.target r) * i

abbrev pub Timing : Shape → (ℕ → ℕ) → ℕ → ℕ → (ℕ → ℕ → ℕ) → Type 0
Timing S D N n t = (i v r : ℕ) → i < N → v < n → Acts S i v r → asked S D t i r ≤ t i v
