-- The reported loop. A loop is the same loop from whichever of its transitions it is read, so "starts" below means "visits".
--
--   NotAfter rs qs           == rs comes not after qs in the order of their first different rule numbers
--   Reported S D P Q u rs    == rs, read from u, is the loop reported at the period P/Q
use Rattle.std.specs.Prelude.{◌≡◌, ◌⊎◌, List, [], ◌∷◌, ℕ, ◌≤◌, ◌<◌, length}
use Rattle.model.specs.Shape.{Shape}
use Rattle.model.specs.Loop.{Loop}
use Rattle.model.specs.Period.{Attains}

abbrev pub NotAfter : List ℕ → List ℕ → Type 0
NotAfter [] qs = Unit {0}
NotAfter (r ∷ rs) [] = ⊥
NotAfter (r ∷ rs) (q ∷ qs) = (r < q) ⊎ ((r ≡ q) × NotAfter rs qs)

-- of the loops that attain the period, those through the lowest transition that any of them visits; of these the ones with fewest rules; of these the first
pub record Reported (S : Shape) (D : ℕ → ℕ) (P Q u : ℕ) (rs : List ℕ) : Type 0 where
  pub is_loop : Loop S u rs
  pub attains : Attains S D P Q rs
  pub lowest : (w : ℕ) (qs : List ℕ) → Loop S w qs → Attains S D P Q qs → u ≤ w
  pub fewest : (qs : List ℕ) → Loop S u qs → Attains S D P Q qs → length rs ≤ length qs
  pub first : (qs : List ℕ) → Loop S u qs → Attains S D P Q qs → length qs ≡ length rs → NotAfter rs qs
