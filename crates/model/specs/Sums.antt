-- Sums over a sequence of rules. Delays stand beside the shape, as a function of the rule's number: one list is asked about with many delays.
--
--   delays D rs   == the sum of the delays of the rules rs, where rule r has the delay D r
--   offsets S rs  == the sum of their offsets
use Rattle.std.specs.Prelude.{List, [], ◌∷◌, ℕ, ◌+◌}
use Rattle.model.specs.Shape.{Shape}

abbrev pub delays : (ℕ → ℕ) → List ℕ → ℕ
delays D [] = 0
delays D (r ∷ rs) = D r + delays D rs

abbrev pub offsets : Shape → List ℕ → ℕ
offsets S [] = 0
offsets S (r ∷ rs) = S.offset r + offsets S rs
