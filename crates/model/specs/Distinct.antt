-- Lists in which no number stands twice.
--
--   NotIn v xs    == v is no element of xs
--   Distinct xs   == no number stands in xs twice
use Rattle.std.specs.Prelude.{◌≢◌, List, [], ◌∷◌, ℕ}

abbrev pub NotIn : ℕ → List ℕ → Type 0
NotIn v [] = Unit {0}
NotIn v (x ∷ xs) = (x ≢ v) × NotIn v xs

abbrev pub Distinct : List ℕ → Type 0
Distinct [] = Unit {0}
Distinct (x ∷ xs) = NotIn x xs × Distinct xs
