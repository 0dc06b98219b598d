-- Lowest terms: a ratio has one pair in lowest terms, and Euclid's algorithm finds it.
--
--   lowest_least     of all pairs with the ratio, the one in lowest terms has the least denominator
--   lowest_unique    two equal ratios in lowest terms are the same pair
--   lowest_zero      zero is 0/1
--   IsGcd a b d      == d is the greatest common divisor of a and b
--   gcd_end, gcd_step         Euclid's algorithm, its end and a step of it
--   Reduces P Q p q d         == P/Q divided through by d is p/q, in lowest terms
--   gcd_quotients, reduced    the quotients by the greatest common divisor are in lowest terms
use Rattle.std.specs.Prelude.{◌≡◌, refl, ℕ, zero, suc, ◌+◌, ◌*◌, ◌/◌, ◌%◌, ◌≤◌, ◌<◌}
use Rattle.std.proofs.Common.{sym, ap, ◌∙◌, arith, mod-lt, div-add-mod', le_of_mul-le-mul_right, le_antisymm}
use Rattle.std.proofs.Math.Logic.{by_cases}
use Rattle.std.proofs.Math.Nat.{eq_of_mul-eq-mul_right, le_dest, div-eq_of_eq-mul_left}
use Rattle.std.proofs.Math.Decide.{ℕ_discrete}
use Rattle.model.specs.Ratio.{Divides, Lowest}

module _ (P Q : ℕ) (low : Lowest P Q) where
  -- a denominator that divides Q is Q
  whole : (p q k : ℕ) → 0 < q → P * q ≡ p * Q → Q ≡ k * q → Q ≤ q
  whole p q k h e d = omega (arith, d, ap (λ x. x * q) (low k (p, num) (q, omega (arith, d))))
    where
      num : P ≡ p * k
      num = eq_of_mul-eq-mul_right q h P (p * k) (omega (arith, e, ap (λ x. p * x) d))

  -- what the quotient k leaves of p is a numerator again
  fewer : (p q k r : ℕ) → 0 < Q → P * q ≡ p * Q → k * q + r ≡ Q → (t : ℕ) × (P * r ≡ t * Q)
  fewer p q k r h e d = (t.0, omega (arith, ap (λ x. x * Q) t.1, ap (λ x. P * x) d, ap (λ x. k * x) e))
    where
      t : (t : ℕ) × (k * p + t ≡ P)
      t = le_dest (le_of_mul-le-mul_right (omega (arith, ap (λ x. P * x) d, ap (λ x. k * x) e)) h)

  -- Every pair with the same ratio has a denominator of at least Q. If q does not divide Q, the remainder is the denominator of a pair, and smaller;
  -- if it does, P/Q is p/q times their quotient, which then is 1. (b: the depth of the recursion)
  pub lowest_least : (b p q : ℕ) → q < b → 0 < q → P * q ≡ p * Q → Q ≤ q
  lowest_least zero p q l h e = absurd (omega arith)
  lowest_least (suc b) p q l h e =
      by_cases (ℕ_discrete (Q % q) 0)
      (λ z. whole p q (Q / q) h e (omega (arith, div-add-mod' Q q)))
      (λ d. let t = fewer p q (Q / q) (Q % q) (omega (arith, div-add-mod' Q q)) e (div-add-mod' Q q) in
      omega (arith, mod-lt Q h, lowest_least b t.0 (Q % q) (omega (arith, mod-lt Q h)) (omega arith) t.1))

-- ONLY ONE. Each denominator is the least, so they are equal; then so are the numerators.
pub lowest_unique : (P Q p q : ℕ) → 0 < Q → 0 < q → Lowest P Q → Lowest p q → P * q ≡ p * Q → (P ≡ p) × (Q ≡ q)
lowest_unique P Q p q h_q hq l m e = (eq_of_mul-eq-mul_right q hq P p (omega (arith, e, ap (λ x. p * x) same)), same)
  where
    same : Q ≡ q
    same = le_antisymm (lowest_least P Q l (suc q) p q (omega arith) hq e) (lowest_least p q m (suc Q) P Q (omega arith) h_q (sym e))

pub lowest_zero : (Q : ℕ) → Lowest 0 Q → Q ≡ 1
lowest_zero Q l = l Q (0, omega arith) (1, omega arith)

abbrev pub Common : ℕ → ℕ → ℕ → Type 0
Common e a b = Divides e a × Divides e b

divides_zero : (e : ℕ) → Divides e 0
divides_zero e = (0, omega arith)

-- what divides a product's whole and one part divides the other part
divides_rest : (e a b c : ℕ) → 0 < e → b + c ≡ a → Divides e a → Divides e b → Divides e c
divides_rest e a b c h s x y = (t.0, omega (arith, ap (λ k. k * e) t.1, x.1, y.1))
  where
    t : (t : ℕ) × (y.0 + t ≡ x.0)
    t = le_dest (le_of_mul-le-mul_right (omega (arith, x.1, y.1)) h)

-- a divisor of a number above 0 is above 0
pub divides_pos : (e b : ℕ) → 0 < b → Divides e b → 0 < e
divides_pos zero b h y = absurd (omega (arith, y.1))
divides_pos (suc e) b h y = omega arith

-- A STEP OF EUCLID'S ALGORITHM KEEPS THE COMMON DIVISORS
module _ (a b : ℕ) (b_pos : 0 < b) where
  pub euclid_down : (e : ℕ) → Common e a b → Common e b (a % b)
  euclid_down e (x, y) =
      (y, divides_rest e a (a / b * b) (a % b) (divides_pos e b b_pos y) (div-add-mod' a b) x (a / b * y.0, omega (arith, ap (λ k. a / b * k) y.1)))

  pub euclid_up : (e : ℕ) → Common e b (a % b) → Common e a b
  euclid_up e (y, z) = ((a / b * y.0 + z.0, omega (arith, div-add-mod' a b, ap (λ k. a / b * k) y.1, z.1)), y)

-- d is the greatest common divisor: a common divisor that every other divides
pub record IsGcd (a b d : ℕ) : Type 0 where
  pub common : Common d a b
  pub greatest : (e : ℕ) → Common e a b → Divides e d

-- at the end of the algorithm, and before each step
pub gcd_end : (a : ℕ) → IsGcd a 0 a
gcd_end a = record { common = ((1, omega arith), divides_zero a); greatest = λ e c. c.0 }

pub gcd_step : (a b d : ℕ) → 0 < b → IsGcd b (a % b) d → IsGcd a b d
gcd_step a b d h G = record { common = euclid_up a b h d G.common; greatest = λ e c. G.greatest e (euclid_down a b h e c) }

-- so there is one. (k: the depth of the recursion)
gcd_exists : (k a b : ℕ) → b < k → (d : ℕ) × IsGcd a b d
gcd_exists zero a b l = absurd (omega arith)
gcd_exists (suc k) a zero l = (a, gcd_end a)
gcd_exists (suc k) a (suc b) l =
    let (d, G) = gcd_exists k (suc b) (a % suc b) (omega (arith, mod-lt a {m = suc b} (omega arith))) in
    (d, gcd_step a (suc b) d (omega arith) G)

-- a divisor of 1 is 1
divides_one : (k e : ℕ) → 1 ≡ k * e → e ≡ 1
divides_one zero e h = absurd (omega arith)
divides_one (suc k) zero h = absurd (omega arith)
divides_one (suc k) (suc zero) h = refl
divides_one (suc k) (suc (suc e)) h = absurd (omega arith)

-- p/q is P/Q divided through by d, in lowest terms
pub record Reduces (P Q p q d : ℕ) : Type 0 where
  pub p_is : P ≡ p * d
  pub q_is : Q ≡ q * d
  pub lowest : Lowest p q

-- the quotients by the greatest common divisor are in lowest terms
pub gcd_reduces : (P Q p q d : ℕ) → 0 < Q → IsGcd P Q d → P ≡ p * d → Q ≡ q * d → Reduces P Q p q d
gcd_reduces P Q p q d h G e_p e_q = record { p_is = e_p; q_is = e_q; lowest = low }
  where
    low : Lowest p q
    low e x y =
        let (k, z) = G.greatest (e * d) ((x.0, omega (arith, ap (λ t. t * d) x.1)), (y.0, omega (arith, ap (λ t. t * d) y.1))) in
        divides_one k e (eq_of_mul-eq-mul_right d (divides_pos d Q h (q, e_q)) 1 (k * e) (omega arith))

-- and they are what a program gets by division
pub gcd_quotients : (P Q d : ℕ) → 0 < Q → IsGcd P Q d → Reduces P Q (P / d) (Q / d) d
gcd_quotients P Q d h G = gcd_reduces P Q (P / d) (Q / d) d h G (exact P G.common.0) (exact Q G.common.1)
  where
    exact : (n : ℕ) → Divides d n → n ≡ n / d * d
    exact n (k, e) = e ∙ ap (λ t. t * d) (sym (div-eq_of_eq-mul_left (divides_pos d Q h G.common.1) e))

pub reduced : (P Q : ℕ) → 0 < Q → (p : ℕ) × (q : ℕ) × (d : ℕ) × Reduces P Q p q d
reduced P Q h =
    let (d, G) = gcd_exists (suc Q) P Q (omega arith) in
    (P / d, Q / d, d, gcd_quotients P Q d h G)
