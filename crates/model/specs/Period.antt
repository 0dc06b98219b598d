-- The period of a list with all delays given: the largest, over all loops, of (sum of delays) / (sum of offsets).
-- Ratios are compared by cross products, and no difference is formed: all numbers are natural.
--
--   Attains S D P Q rs   == the delays of rs over its offsets are P/Q
--   NotAbove S D P Q rs  == they are not above P/Q
--   Above S D P Q rs     == they are above P/Q
--   Period S D P Q       == P/Q is the period, in some terms
use Rattle.std.specs.Prelude.{◌≡◌, List, ℕ, ◌*◌, ◌≤◌, ◌<◌}
use Rattle.model.specs.Shape.{Shape}
use Rattle.model.specs.Sums.{delays, offsets}
use Rattle.model.specs.Loop.{Loop}

abbrev pub Attains : Shape → (ℕ → ℕ) → ℕ → ℕ → List ℕ → Type 0
Attains S D P Q rs = Q * delays D rs ≡ P * offsets S rs

abbrev pub NotAbove : Shape → (ℕ → ℕ) → ℕ → ℕ → List ℕ → Type 0
NotAbove S D P Q rs = Q * delays D rs ≤ P * offsets S rs

abbrev pub Above : Shape → (ℕ → ℕ) → ℕ → ℕ → List ℕ → Type 0
Above S D P Q rs = P * offsets S rs < Q * delays D rs

-- a loop that has a turn attains P/Q, and no loop is above it
pub record Period (S : Shape) (D : ℕ → ℕ) (P Q : ℕ) : Type 0 where
  pub q_pos : 0 < Q
  pub at : ℕ
  pub loop : List ℕ
  pub is_loop : Loop S at loop
  pub turns : 0 < offsets S loop
  pub attained : Attains S D P Q loop
  pub highest : (u : ℕ) (rs : List ℕ) → Loop S u rs → NotAbove S D P Q rs
