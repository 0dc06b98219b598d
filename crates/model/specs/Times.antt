-- The timing simulation.
--
--   Acts S i v r               == rule r acts on occurrence i of transition v
--   asked S D T i r            == the time that it asks for, where T are the times
--   IsTime S D T i v           == occurrence i of v is at the largest time that a rule asks for, and at 0 if no rule acts
--   AreTimes S D N n T         == so it is for the first N occurrences of n transitions
--   Timed S D N n out₀ out     == out is the buffer out₀ with these times written in its lowest places, row by row
use Rattle.std.specs.Prelude.{◌≡◌, ◌⊎◌, List, ℕ, ◌+◌, ◌*◌, ◌-◌, ◌≤◌, ◌<◌, length, get_or}
use Rattle.model.specs.Shape.{Shape}

-- it goes to v, and occurrence i is no earlier than its offset
pub record Acts (S : Shape) (i v r : ℕ) : Type 0 where
  pub is_rule : r < S.rules
  pub target : S.target r ≡ v
  pub reached : S.offset r ≤ i

-- the delay after occurrence i - e of the source
abbrev pub asked : Shape → (ℕ → ℕ) → (ℕ → ℕ → ℕ) → ℕ → ℕ → ℕ
asked S D T i r = T (i - S.offset r) (S.source r) + D r

-- a rule that acts and asks for just the time of occurrence i of v
pub record Cause (S : Shape) (D : ℕ → ℕ) (T : ℕ → ℕ → ℕ) (i v : ℕ) : Type 0 where
  pub rule : ℕ
  pub acts : Acts S i v rule
  pub exact : T i v ≡ asked S D T i rule

pub record IsTime (S : Shape) (D : ℕ → ℕ) (T : ℕ → ℕ → ℕ) (i v : ℕ) : Type 0 where
  pub late_enough : (r : ℕ) → Acts S i v r → asked S D T i r ≤ T i v
  pub no_later : (T i v ≡ 0) ⊎ Cause S D T i v

abbrev pub AreTimes : Shape → (ℕ → ℕ) → ℕ → ℕ → (ℕ → ℕ → ℕ) → Type 0
AreTimes S D N n T = (i v : ℕ) → i < N → v < n → IsTime S D T i v

-- all transitions of occurrence 0, then of occurrence 1, and so on; what lies past them stays
pub record Timed (S : Shape) (D : ℕ → ℕ) (N n : ℕ) (out₀ out : List ℕ) : Type 0 where
  pub T : ℕ → ℕ → ℕ
  pub times : AreTimes S D N n T
  pub size : length out ≡ length out₀
  pub rows : (i v : ℕ) → i < N → v < n → get_or out (i * n + v) 0 ≡ T i v
  pub rest : (k : ℕ) → N * n ≤ k → get_or out k 0 ≡ get_or out₀ k 0
