-- Sums over the numbers below k.
--
--   sum k f           == the sum of f over the numbers below k; sum_same, sum_but: equal functions, and two that agree but at one number; sum_most
--   sign x            == 1 where x is above 0; sign_some, sign_none, sign_most
--   total k xs        == the sum of the first k numbers of a list; total_set: one of them replaced
use Rattle.std.specs.Prelude.{◌≡◌, refl, ◌≢◌, List, ℕ, zero, suc, ◌+◌, ◌≤◌, ◌<◌, length, get_or, set}
use Rattle.std.proofs.Math.Logic.{by_cases}
use Rattle.std.proofs.Common.{arith, lt_of_not-le, get_or-set_same, get_or-set_other}
use Rattle.std.proofs.Math.Decide.{ℕ_discrete, dec_le}
use Rattle.std.proofs.Math.ListN.{get_or-eq_default}

-- the sum of f over the numbers below k
unfoldable pub sum : ℕ → (ℕ → ℕ) → ℕ
sum zero f = 0
sum (suc k) f = sum k f + f k

pub sum_same : (k : ℕ) (f g : ℕ → ℕ) → ((i : ℕ) → i < k → f i ≡ g i) → sum k f ≡ sum k g
unfolding sum
sum_same zero f g h = refl
sum_same (suc k) f g h = omega (arith, h k (omega arith), sum_same k f g (λ i l. h i (omega arith)))

-- two functions that agree but at j
pub sum_but : (k : ℕ) (f g : ℕ → ℕ) (j : ℕ) → j < k → ((i : ℕ) → i ≢ j → f i ≡ g i) → sum k f + g j ≡ sum k g + f j
unfolding sum
sum_but zero f g j b h = absurd (omega arith)
sum_but (suc k) f g j b h =
    by_cases (ℕ_discrete k j)
    (λ e. rw e (omega (arith, sum_same j f g (λ i l. h i (λ s. omega arith)))))
    (λ d. omega (arith, h k d, sum_but k f g j (omega arith) h))

pub sum_most : (k : ℕ) (f : ℕ → ℕ) → ((i : ℕ) → f i ≤ 1) → sum k f ≤ k
unfolding sum
sum_most zero f h = omega arith
sum_most (suc k) f h = omega (arith, h k, sum_most k f h)

-- 1 where x is above 0
abbrev pub sign : ℕ → ℕ
sign zero = 0
sign (suc x) = 1

pub sign_some : (x : ℕ) → 0 < x → sign x ≡ 1
sign_some zero l = absurd (omega arith)
sign_some (suc x) l = refl

pub sign_most : (x : ℕ) → sign x ≤ 1
sign_most zero = omega arith
sign_most (suc x) = omega arith

pub sign_none : (x : ℕ) → x ≡ 0 → sign x ≡ 0
sign_none x e = rw e refl

-- the sum of the first k numbers of a list
abbrev pub total : ℕ → List ℕ → ℕ
total k xs = sum k (λ i. get_or xs i 0)

-- a place that holds a number above 0 is in the list
pub inside : (xs : List ℕ) (i : ℕ) → 0 < get_or xs i 0 → i < length xs
inside xs i h = by_cases (dec_le (length xs) i) (λ out. absurd (omega (arith, get_or-eq_default xs 0 out))) (λ l. lt_of_not-le l)

-- one number above 0 replaced
pub total_set : (k : ℕ) (xs : List ℕ) (i x : ℕ) → i < k → 0 < get_or xs i 0 → total k (set xs i x) + get_or xs i 0 ≡ total k xs + x
total_set k xs i x b l =
    omega (arith, get_or-set_same xs i x 0 (inside xs i l), sum_but k (λ j. get_or (set xs i x) j 0) (λ j. get_or xs j 0) i b (λ j d. get_or-set_other xs i j x 0 d))
