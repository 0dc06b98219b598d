-- Fillings: what the definition says of a known and of an unknown delay, and the lowest and the highest filling.
--
--   Proper S K                         == every rule may have some delay
--   known_filled, unknown_filled       a known delay is kept; an unknown one may be anything from 0 to M, and nothing else
--   low_filling, high_filling          the least delays are a filling, and so are the greatest
--   given_one                          without blanks there is one filling
use Rattle.std.specs.Prelude.{◌≡◌, ℕ, ◌≤◌, ◌<◌}
use Rattle.std.proofs.Common.{arith, le_refl}
use Rattle.model.specs.Shape.{Shape}
use Rattle.model.specs.Filling.{Delay, unknown, known, least_of, greatest_of, Ranges, ranges, Filling, Given}

abbrev pub Proper : Shape → Ranges → Type 0
Proper S K = (r : ℕ) → r < S.rules → K.least r ≤ K.greatest r

-- EVERY UNKNOWN DELAY REPLACED BY SOME VALUE FROM 0 TO M, AND NO OTHER CHANGED
pub known_filled : (M d x : ℕ) → (least_of (known d) ≤ x) × (x ≤ greatest_of M (known d)) → x ≡ d
known_filled M d x h = omega arith

pub unknown_filled : (M x : ℕ) → x ≤ M → (least_of unknown ≤ x) × (x ≤ greatest_of M unknown)
unknown_filled M x h = omega arith

pub unknown_range : (M x : ℕ) → (least_of unknown ≤ x) × (x ≤ greatest_of M unknown) → x ≤ M
unknown_range M x h = h.1

proper_delay : (M : ℕ) (k : Delay) → least_of k ≤ greatest_of M k
proper_delay M unknown = omega arith
proper_delay M (known d) = le_refl d

pub ranges_proper : (S : Shape) (M : ℕ) (K : ℕ → Delay) → Proper S (ranges M K)
ranges_proper S M K r b = proper_delay M (K r)

module _ (S : Shape) (K : Ranges) where
  pub low_filling : Proper S K → Filling S K K.least
  low_filling p r b = (le_refl _, p r b)

  pub high_filling : Proper S K → Filling S K K.greatest
  high_filling p r b = (p r b, le_refl _)

  pub given_one : Given S K → (D E : ℕ → ℕ) → Filling S K D → Filling S K E → (r : ℕ) → r < S.rules → D r ≡ E r
  given_one g D E f h r b = omega (arith, g r b, f r b, h r b)
