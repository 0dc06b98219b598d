-- What the order of the rules rests on: a bound on every entry of a list, kept by each store.
--
--   Most xs b             == every entry of xs is at most b
--   most_zeros, most_set  == so it is of zeros, and when an entry is set to b or less
--   Queued list end       == the first `end` places of list are a queue of transitions
use Rattle.std.specs.Prelude.{List, [], ◌∷◌, ℕ, zero, suc, ◌≤◌, get_or, set, replicate}
use Rattle.std.proofs.Common.{arith}

-- every entry of xs is at most b
abbrev pub Most : List ℕ → ℕ → Type 0
Most xs b = (k : ℕ) → get_or xs k 0 ≤ b

pub most_zeros : (size b : ℕ) → Most (replicate size 0) b
most_zeros zero b k = omega arith
most_zeros (suc size) b zero = omega arith
most_zeros (suc size) b (suc k) = most_zeros size b k

pub most_set : (xs : List ℕ) (i x b : ℕ) → Most xs b → x ≤ b → Most (set xs i x) b
most_set [] i x b h l k = h k
most_set (y ∷ ys) zero x b h l zero = l
most_set (y ∷ ys) zero x b h l (suc k) = h (suc k)
most_set (y ∷ ys) (suc i) x b h l zero = h zero
most_set (y ∷ ys) (suc i) x b h l (suc k) = most_set ys i x b (λ j. h (suc j)) l k

-- the first `end` places of list are a queue of transitions
abbrev pub Queued : List ℕ → ℕ → Type 0
Queued list end = (end ≤ 256) × Most list 255
