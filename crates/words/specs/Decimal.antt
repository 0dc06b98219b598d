-- Characters and numbers as bytes.
--
--   ascii s          the bytes of a text
--   digit d          the byte of a digit
--   decimal n        the bytes of a number in decimal: 0 is "0", and no other number begins with a zero
--   numbers xs       the numbers xs, each after a space
--
-- Laws: decimal_one, decimal_more (the plain equations of `decimal`), decimal_length (below 10^k at most k digits), numbers_append.
use Rattle.std.specs.Prelude.{◌≡◌, refl, Bool, true, false, List, [], ◌∷◌, ◌++◌, ℕ, zero, suc, ◌+◌, ◌/◌, ◌%◌, ◌^◌, ◌≤◌, ◌<◌, ltb, length}
use Rattle.std.proofs.Common.{ap, sym, ◌∙◌, append_assoc, arith, pow-suc, length-append, le-ltb, lt-ltb}
use Rattle.std.proofs.Math.Logic.{by_cases}
use Prim.Native.Char.{code}
use Prim.Native.String.{String, [] as nothing, ◌∷◌ as ◌then◌}
use Rattle.std.proofs.Math.Decide.{dec_lt}
use Rattle.std.proofs.Math.Nat.{pow-zero}

-- ---------------------------------------------------------------------------------------------------------------------------------- definitions

-- the bytes of a text of ASCII characters
abbrev pub ascii : String → List ℕ
ascii nothing = []
ascii (c then s) = code c ∷ ascii s

-- the first where the test holds, else the second
abbrev pub pick : {A : Type 0} → Bool → A → A → A
pick true a b = a
pick false a b = b

-- the byte of the digit d: '0' is 48
abbrev pub digit : ℕ → ℕ
digit d = 48 + d

-- the digits of n, highest first, of at most k + 1 (the `let` has them computed only where they are wanted)
unfoldable pub digits_in : ℕ → ℕ → List ℕ
digits_in zero n = digit n ∷ []
digits_in (suc k) n =
    let higher = digits_in k (n / 10) in
    pick (ltb n 10) (digit n ∷ []) (higher ++ (digit (n % 10) ∷ []))

-- the digits of n: n itself bounds their number (`decimal_one` and `decimal_more` are the plain equations)
unfoldable pub decimal : ℕ → List ℕ
decimal n = digits_in n n

-- each number after a space
abbrev pub numbers : List ℕ → List ℕ
numbers [] = []
numbers (x ∷ xs) = ascii " " ++ (decimal x ++ numbers xs)

-- ---------------------------------------------------------------------------------------------------------------------------------------- laws

digits_enough : (j k n : ℕ) → n ≤ j → n ≤ k → digits_in j n ≡ digits_in k n
unfolding digits_in
digits_enough zero zero n p q = refl
digits_enough zero (suc k) n p q = simp (lt-ltb n 10 (omega arith))
digits_enough (suc j) zero n p q = simp (lt-ltb n 10 (omega arith))
digits_enough (suc j) (suc k) n p q =
    by_cases (dec_lt n 10)
    (λ l. simp (lt-ltb n 10 l))
    (λ l. simp (le-ltb n 10 (omega arith)) (ap (λ (r : List ℕ). r ++ (digit (n % 10) ∷ [])) (digits_enough j k (n / 10) (omega arith) (omega arith))))

-- a number below ten is its digit
pub decimal_one : (n : ℕ) → n < 10 → decimal n ≡ digit n ∷ []
unfolding decimal digits_in
decimal_one zero h = refl
decimal_one (suc n) h = simp (lt-ltb (suc n) 10 h)

-- any other is its tens in decimal, then its last digit
pub decimal_more : (n : ℕ) → 10 ≤ n → decimal n ≡ decimal (n / 10) ++ (digit (n % 10) ∷ [])
unfolding decimal digits_in
decimal_more zero h = absurd (omega arith)
decimal_more (suc n) h =
    simp (le-ltb (suc n) 10 h) (ap (λ (r : List ℕ). r ++ (digit (suc n % 10) ∷ [])) (digits_enough n (suc n / 10) (suc n / 10) (omega arith) (omega arith)))

-- a number below 10^(k + 1) has at most k + 1 digits
pub decimal_length : (k n : ℕ) → n < 10 ^ suc k → length (decimal n) ≤ suc k
decimal_length zero n h = omega (arith, ap length (decimal_one n (omega (arith, pow-suc 10 0, pow-zero 10))))
decimal_length (suc k) n h =
    by_cases (dec_lt n 10)
    (λ l. omega (arith, ap length (decimal_one n l)))
    (λ l. omega (
      arith,
      ap length (decimal_more n (omega arith)),
      length-append (decimal (n / 10)) (digit (n % 10) ∷ []),
      decimal_length k (n / 10) (omega (arith, pow-suc 10 (suc k))),
    ))

pub numbers_append : (xs ys : List ℕ) → numbers (xs ++ ys) ≡ numbers xs ++ numbers ys
numbers_append [] ys = refl
numbers_append (x ∷ xs) ys = ap (λ (r : List ℕ). ascii " " ++ (decimal x ++ r)) (numbers_append xs ys) ∙ ap (λ (r : List ℕ). ascii " " ++ r) (sym (append_assoc (decimal x) (numbers xs) (numbers ys)))
