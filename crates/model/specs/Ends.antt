-- The two ends: the least and the greatest quotient over all fillings, of the period or of a transition's rate.
-- A measure M tells which quotients P/Q the delays D give: `Period S`, or `λ D. Rate S D v`.
--
--   Attained S K M P Q  == some filling gives P/Q, in lowest terms
--   LowEnd S K M P Q    == P/Q is the least that fillings give
--   HighEnd S K M P Q   == P/Q is the greatest
--   Exact P Q P' Q' e   == e tells whether the ends P/Q and P'/Q' meet
--   Range               == two ends, and whether they meet
--   RangeOf S K M a     == a has the two ends of M
--   Narrows S K K'      == every rule may have no other delay under K' than under K: some blanks were filled
use Rattle.std.specs.Prelude.{◌≡◌, Bool, true, false, ◌⊎◌, ℕ, ◌*◌, ◌≤◌, ◌<◌}
use Rattle.model.specs.Shape.{Shape}
use Rattle.model.specs.Ratio.{Lowest}
use Rattle.model.specs.Filling.{Ranges, Filling}

abbrev pub Measure : Type 1
Measure = (ℕ → ℕ) → ℕ → ℕ → Type 0

pub record Attained (S : Shape) (K : Ranges) (M : Measure) (P Q : ℕ) : Type 0 where
  pub D : ℕ → ℕ
  pub fills : Filling S K D
  pub given : M D P Q
  pub lowest : Lowest P Q

pub record LowEnd (S : Shape) (K : Ranges) (M : Measure) (P Q : ℕ) : Type 0 where
  pub attained : Attained S K M P Q
  pub least : (E : ℕ → ℕ) → Filling S K E → (P' Q' : ℕ) → M E P' Q' → P * Q' ≤ P' * Q

pub record HighEnd (S : Shape) (K : Ranges) (M : Measure) (P Q : ℕ) : Type 0 where
  pub attained : Attained S K M P Q
  pub greatest : (E : ℕ → ℕ) → Filling S K E → (P' Q' : ℕ) → M E P' Q' → P' * Q ≤ P * Q'

-- exact is said just where the ends are equal
abbrev pub Exact : ℕ → ℕ → ℕ → ℕ → Bool → Type 0
Exact P Q P' Q' e = ((P ≡ P') × (Q ≡ Q') × (e ≡ true)) ⊎ (¬ ((P ≡ P') × (Q ≡ Q')) × (e ≡ false))

pub record Range : Type 0 where
  pub low_p : ℕ
  pub low_q : ℕ
  pub high_p : ℕ
  pub high_q : ℕ
  pub exact : Bool

pub record RangeOf (S : Shape) (K : Ranges) (M : Measure) (a : Range) : Type 0 where
  pub low : LowEnd S K M a.low_p a.low_q
  pub high : HighEnd S K M a.high_p a.high_q
  pub meet : Exact a.low_p a.low_q a.high_p a.high_q a.exact

abbrev pub Narrows : Shape → Ranges → Ranges → Type 0
Narrows S K K' = (r : ℕ) → r < S.rules → (K.least r ≤ K'.least r) × (K'.greatest r ≤ K.greatest r)
