-- Sequences of rules, each starting where the one before ended.
--
--   Walk S u w rs  == the rules rs lead from transition u to transition w
--   sources S rs   == the transitions at which the rules rs start, in order
--   visits S w rs  == the transitions that a walk rs to w visits, in order
use Rattle.std.specs.Prelude.{◌≡◌, List, [], ◌∷◌, ◌++◌, ℕ, ◌<◌}
use Rattle.model.specs.Shape.{Shape}

-- the empty sequence leads from a transition to itself, and a rule followed by a walk from its target leads from its source
abbrev pub Walk : Shape → ℕ → ℕ → List ℕ → Type 0
Walk S u w [] = u ≡ w
Walk S u w (r ∷ rs) = (r < S.rules) × (S.source r ≡ u) × Walk S (S.target r) w rs

abbrev pub sources : Shape → List ℕ → List ℕ
sources S [] = []
sources S (r ∷ rs) = S.source r ∷ sources S rs

abbrev pub visits : Shape → ℕ → List ℕ → List ℕ
visits S w rs = sources S rs ++ (w ∷ [])
