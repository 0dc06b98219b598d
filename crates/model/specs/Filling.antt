-- Blanks, and the ways to fill them.
--
--   Delay           == a delay is unknown, or known with its value: two cases that share no value
--   least_of k       == the least that the delay k may be: 0 where it is unknown
--   greatest_of M k  == the greatest that it may be: M where it is unknown
--   Ranges          == of every rule the least and the greatest delay that it may have
--   ranges M K      == these, where rule r has the delay K r
--   Filling S K D   == D gives every rule a delay that it may have
--   Given S K       == no rule has a blank
use Rattle.std.specs.Prelude.{◌≡◌, ℕ, ◌≤◌, ◌<◌}
use Rattle.model.specs.Shape.{Shape}

pub data Delay : Type 0 where
  unknown : Delay
  known : ℕ → Delay

abbrev pub least_of : Delay → ℕ
least_of unknown = 0
least_of (known d) = d

abbrev pub greatest_of : ℕ → Delay → ℕ
greatest_of M unknown = M
greatest_of M (known d) = d

pub record Ranges : Type 0 where
  pub least : ℕ → ℕ
  pub greatest : ℕ → ℕ

abbrev pub ranges : ℕ → (ℕ → Delay) → Ranges
ranges M K = record { least = λ r. least_of (K r); greatest = λ r. greatest_of M (K r) }

-- a known delay is kept, and an unknown one replaced by some value from 0 to the greatest
abbrev pub Filling : Shape → Ranges → (ℕ → ℕ) → Type 0
Filling S K D = (r : ℕ) → r < S.rules → (K.least r ≤ D r) × (D r ≤ K.greatest r)

abbrev pub Given : Shape → Ranges → Type 0
Given S K = (r : ℕ) → r < S.rules → K.least r ≡ K.greatest r
