-- Sums over sequences of rules.
--
--   delays_append, offsets_append    sums over two sequences joined
--   delays_more                      longer delays sum to more
--   delays_most, offsets_most        a sum is at most the length times the largest term
--   zero_all, all_zero               an offset sum is 0 just where every offset is
use Rattle.std.specs.Prelude.{◌≡◌, refl, List, [], ◌∷◌, ◌++◌, ℕ, ◌+◌, ◌*◌, ◌≤◌, ◌<◌, length}
use Rattle.std.proofs.Common.{arith}
use Rattle.model.specs.Shape.{Shape}
use Rattle.model.specs.Sums.{delays, offsets}
use Rattle.model.specs.Walk.{Walk}

-- A holds of every rule of rs
abbrev pub All : (ℕ → Type 0) → List ℕ → Type 0
All A [] = Unit {0}
All A (r ∷ rs) = A r × All A rs

pub all_append : (A : ℕ → Type 0) (rs ss : List ℕ) → All A (rs ++ ss) → All A rs × All A ss
all_append A [] ss a = (tt, a)
all_append A (r ∷ rs) ss a = let t = all_append A rs ss a.1 in ((a.0, t.0), t.1)

pub all_join : (A : ℕ → Type 0) (rs ss : List ℕ) → All A rs → All A ss → All A (rs ++ ss)
all_join A [] ss a b = b
all_join A (r ∷ rs) ss a b = (a.0, all_join A rs ss a.1 b)

pub delays_append : (D : ℕ → ℕ) (rs ss : List ℕ) → delays D (rs ++ ss) ≡ delays D rs + delays D ss
delays_append D [] ss = omega arith
delays_append D (r ∷ rs) ss = omega (arith, delays_append D rs ss)

module _ (S : Shape) where
  pub offsets_append : (rs ss : List ℕ) → offsets S (rs ++ ss) ≡ offsets S rs + offsets S ss
  offsets_append [] ss = omega arith
  offsets_append (r ∷ rs) ss = omega (arith, offsets_append rs ss)

  -- delays are compared at the rules of the walk only
  pub delays_more : (D E : ℕ → ℕ) → ((r : ℕ) → r < S.rules → D r ≤ E r) → (u w : ℕ) (rs : List ℕ) → Walk S u w rs → delays D rs ≤ delays E rs
  delays_more D E more u w [] h = omega arith
  delays_more D E more u w (r ∷ rs) h = omega (arith, more r h.0, delays_more D E more (S.target r) w rs h.2)

  pub delays_most : (D : ℕ → ℕ) (C : ℕ) → ((r : ℕ) → r < S.rules → D r ≤ C) → (u w : ℕ) (rs : List ℕ) → Walk S u w rs → delays D rs ≤ length rs * C
  delays_most D C m u w [] h = omega arith
  delays_most D C m u w (r ∷ rs) h = omega (arith, m r h.0, delays_most D C m (S.target r) w rs h.2)

  pub offsets_most : (E : ℕ) → ((r : ℕ) → r < S.rules → S.offset r ≤ E) → (u w : ℕ) (rs : List ℕ) → Walk S u w rs → offsets S rs ≤ length rs * E
  offsets_most E m u w [] h = omega arith
  offsets_most E m u w (r ∷ rs) h = omega (arith, m r h.0, offsets_most E m (S.target r) w rs h.2)

  pub zero_all : (rs : List ℕ) → offsets S rs ≡ 0 → All (λ r. S.offset r ≡ 0) rs
  zero_all [] e = tt
  zero_all (r ∷ rs) e = (omega (arith, e), zero_all rs (omega (arith, e)))

  pub all_zero : (rs : List ℕ) → All (λ r. S.offset r ≡ 0) rs → offsets S rs ≡ 0
  all_zero [] a = refl
  all_zero (r ∷ rs) a = omega (arith, a.0, all_zero rs a.1)
