-- Lists of pairwise different numbers, and the pigeonhole principle.
--
--   AllBelow n xs   == every element of xs is below n
--   distinct_front, distinct_last, distinct_swap   parts of such a list
--   pigeonhole      a list of different numbers below n has at most n elements
use Rattle.std.specs.Prelude.{◌≡◌, refl, ◌≢◌, List, [], ◌∷◌, ◌++◌, ℕ, zero, suc, ◌+◌, ◌≤◌, ◌<◌, length}
use Rattle.std.proofs.Common.{sym, append-nil, arith}
use Rattle.std.proofs.Math.Logic.{ite, if_pos, if_neg, by_cases}
use Rattle.std.proofs.Math.Decide.{ℕ_discrete}
use Rattle.model.specs.Distinct.{NotIn, Distinct}

-- every element is below n
abbrev pub AllBelow : ℕ → List ℕ → Type 0
AllBelow n [] = Unit {0}
AllBelow n (x ∷ xs) = (x < n) × AllBelow n xs

-- the front of such a list is such a list
pub not_in_front : (v : ℕ) (xs ys : List ℕ) → NotIn v (xs ++ ys) → NotIn v xs
not_in_front v [] ys h = tt
not_in_front v (x ∷ xs) ys h = (h.0, not_in_front v xs ys h.1)

pub distinct_front : (xs ys : List ℕ) → Distinct (xs ++ ys) → Distinct xs
distinct_front [] ys h = tt
distinct_front (x ∷ xs) ys h = (not_in_front x xs ys h.0, distinct_front xs ys h.1)

-- the last element is another one
pub not_in_last : (v w : ℕ) (xs : List ℕ) → NotIn v (xs ++ (w ∷ [])) → w ≢ v
not_in_last v w [] h = h.0
not_in_last v w (x ∷ xs) h = not_in_last v w xs h.1

pub distinct_last : (w : ℕ) (xs : List ℕ) → Distinct (xs ++ (w ∷ [])) → NotIn w xs
distinct_last w [] h = tt
distinct_last w (x ∷ xs) h = (λ e. not_in_last x w xs h.0 (sym e), distinct_last w xs h.1)

not_in_insert : (v x : ℕ) (ys xs : List ℕ) → x ≢ v → NotIn v (ys ++ xs) → NotIn v (ys ++ (x ∷ xs))
not_in_insert v x [] xs d h = (d, h)
not_in_insert v x (y ∷ ys) xs d h = (h.0, not_in_insert v x ys xs d h.1)

distinct_insert : (x : ℕ) (ys xs : List ℕ) → NotIn x (ys ++ xs) → Distinct (ys ++ xs) → Distinct (ys ++ (x ∷ xs))
distinct_insert x [] xs d h = (d, h)
distinct_insert x (y ∷ ys) xs d h = (not_in_insert y x ys xs (λ e. d.0 (sym e)) h.0, distinct_insert x ys xs d.1 h.1)

-- the parts of such a list may change places
not_in_swap : (v : ℕ) (xs ys : List ℕ) → NotIn v (xs ++ ys) → NotIn v (ys ++ xs)
not_in_swap v [] ys h = rw (append-nil ys) h
not_in_swap v (x ∷ xs) ys h = not_in_insert v x ys xs h.0 (not_in_swap v xs ys h.1)

pub distinct_swap : (xs ys : List ℕ) → Distinct (xs ++ ys) → Distinct (ys ++ xs)
distinct_swap [] ys h = rw (append-nil ys) h
distinct_swap (x ∷ xs) ys h = distinct_insert x ys xs (not_in_swap x xs ys h.0) (distinct_swap xs ys h.1)

-- 1 where the numbers are equal, else 0
hit : ℕ → ℕ → ℕ
hit v x = ite (ℕ_discrete x v) 1 0

hit_same : (v x : ℕ) → x ≡ v → hit v x ≡ 1
unfolding hit
hit_same v x e = if_pos (ℕ_discrete x v) e 1 0

hit_other : (v x : ℕ) → x ≢ v → hit v x ≡ 0
unfolding hit
hit_other v x d = if_neg (ℕ_discrete x v) d 1 0

-- how often v stands in the list
abbrev count : ℕ → List ℕ → ℕ
count v [] = 0
count v (x ∷ xs) = hit v x + count v xs

-- how many elements are below n, counted number by number
abbrev counts : ℕ → List ℕ → ℕ
counts zero xs = 0
counts (suc n) xs = count n xs + counts n xs

count_absent : (v : ℕ) (xs : List ℕ) → NotIn v xs → count v xs ≡ 0
count_absent v [] h = refl
count_absent v (x ∷ xs) h = omega (arith, hit_other v x h.0, count_absent v xs h.1)

count_distinct : (v : ℕ) (xs : List ℕ) → Distinct xs → count v xs ≤ 1
count_distinct v [] h = omega arith
count_distinct v (x ∷ xs) h =
    by_cases (ℕ_discrete x v)
    (λ e. omega (arith, hit_same v x e, count_absent v xs (rw e at h.0)))
    (λ d. omega (arith, hit_other v x d, count_distinct v xs h.1))

counts_distinct : (n : ℕ) (xs : List ℕ) → Distinct xs → counts n xs ≤ n
counts_distinct zero xs h = omega arith
counts_distinct (suc n) xs h = omega (arith, count_distinct n xs h, counts_distinct n xs h)

-- a number that is not below n adds nothing, and one below n adds one
counts_above : (n x : ℕ) (xs : List ℕ) → n ≤ x → counts n (x ∷ xs) ≡ counts n xs
counts_above zero x xs h = refl
counts_above (suc n) x xs h = omega (arith, hit_other n x (omega arith), counts_above n x xs (omega arith))

counts_below : (n x : ℕ) (xs : List ℕ) → x < n → counts n (x ∷ xs) ≡ suc (counts n xs)
counts_below zero x xs h = absurd (omega arith)
counts_below (suc n) x xs h =
    by_cases (ℕ_discrete x n)
    (λ e. omega (arith, hit_same n x e, counts_above n x xs (omega arith)))
    (λ d. omega (arith, hit_other n x d, counts_below n x xs (omega arith)))

counts_all : (n : ℕ) (xs : List ℕ) → AllBelow n xs → length xs ≤ counts n xs
counts_all n [] h = omega arith
counts_all n (x ∷ xs) h = omega (arith, counts_below n x xs h.0, counts_all n xs h.1)

-- THE PIGEONHOLE PRINCIPLE. Count how often each number below n stands in the list: at most once; and every element is counted.
pub pigeonhole : (n : ℕ) (xs : List ℕ) → Distinct xs → AllBelow n xs → length xs ≤ n
pigeonhole n xs d b = omega (arith, counts_distinct n xs d, counts_all n xs b)
