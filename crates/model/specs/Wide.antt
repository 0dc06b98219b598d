-- Sums that are too large to be worked with.
--
--   WideSum W S D P Q   == over a loop, or a path that visits no transition twice, the delay sum, the offset sum,
--                          or the sum of Q a - e P in size, isn't below W
use Rattle.std.specs.Prelude.{◌≡◌, ◌⊎◌, List, ℕ, ◌+◌, ◌*◌, ◌≤◌}
use Rattle.model.specs.Shape.{Shape}
use Rattle.model.specs.Sums.{delays, offsets}
use Rattle.model.specs.Distinct.{NotIn, Distinct}
use Rattle.model.specs.Walk.{Walk, sources}

pub record WideSum (W : ℕ) (S : Shape) (D : ℕ → ℕ) (P Q : ℕ) : Type 0 where
  pub u : ℕ
  pub w : ℕ
  pub rs : List ℕ
  pub walks : Walk S u w rs
  pub simple : Distinct (sources S rs)
  pub ends : (u ≡ w) ⊎ NotIn w (sources S rs)
  pub big : (W ≤ delays D rs) ⊎ ((W ≤ offsets S rs) ⊎ ((P * offsets S rs + W ≤ Q * delays D rs) ⊎ (Q * delays D rs + W ≤ P * offsets S rs)))
