-- TIMES OF OCCURRENCES, beyond those of theory/Times: there are such times where every loop turns, and they are the earliest in fractions too.
--
--   times_least_over    no timing function is earlier anywhere, in fractions over one denominator
--   Largest S i v f x   == x is the largest f r over the rules r that act on occurrence i of v, and 0 if none acts
--   largest_exists      there is one; largest_same: it asks for the values at these rules alone
--   times_exist         where every loop turns there are times
--   timed_exists        and a buffer that holds them, row by row
use Rattle.std.specs.Prelude.{◌≡◌, refl, ◌⊎◌, List, [], ◌∷◌, ◌++◌, ℕ, zero, suc, ◌+◌, ◌*◌, ◌-◌, ◌/◌, ◌%◌, ◌≤◌, ◌<◌, length, drop, get_or}
use Rattle.std.proofs.Common.{sym, ap, ◌∙◌, subst, inl, inr, ⊎_elim, arith, le_antisymm, mod-eq_of_lt, mul-le-mul_left, mul-le-mul_right, length-append, length-drop, get_or-append-add, get_or-drop}
use Rattle.std.proofs.Math.Logic.{by_cases}
use Rattle.std.proofs.Math.Logic.Dec
use Rattle.std.proofs.Math.Nat.{div-eq_of_lt-le, mul-add-mod_self_right}
use Rattle.std.proofs.Math.Decide.{ℕ_discrete, dec_le, dec_lt}
use Rattle.model.specs.Shape.{Shape, Fits}
use Rattle.model.specs.Loop.{Live}
use Rattle.model.specs.Times.{Acts, asked, IsTime, AreTimes, Timed}
use Rattle.model.specs.Thesis.{Timing}
use Rattle.theory.specs.Rank.{ZeroRanks, live_ranks}
use Rattle.theory.specs.Times.{times_least}

-- -------------------------------------------------------------------------------------------------------------------- in fractions, and of rules alone

-- the times of q times the delays are q times the times
times_scaled : (S : Shape) (D : ℕ → ℕ) (N n q : ℕ) (T : ℕ → ℕ → ℕ) → AreTimes S D N n T → AreTimes S (λ r. q * D r) N n (λ i v. q * T i v)
times_scaled S D N n q T are i v a b =
    record {
      late_enough = λ r h. omega (arith, mul-le-mul_left q ((are i v a b).late_enough r h));
      no_later = ⊎_elim (λ z. inl (omega (arith, ap (λ x. q * x) z))) (λ c. inr (record { rule = c.rule; acts = c.acts; exact = omega (arith, ap (λ x. q * x) c.exact) })) (are i v a b).no_later;
    }

-- NOR ANY EARLIER IN FRACTIONS: t, over q, is a timing function whose values have the denominator q
pub times_least_over : (S : Shape) (D : ℕ → ℕ) (N n : ℕ) → Fits S n → Live S → (q : ℕ) (T t : ℕ → ℕ → ℕ) → AreTimes S D N n T → Timing S (λ r. q * D r) N n t
    → (i v : ℕ) → i < N → v < n → q * T i v ≤ t i v
times_least_over S D N n fits live q T t are timing = times_least S (λ r. q * D r) N n fits live (λ i v. q * T i v) t (times_scaled S D N n q T are) timing

-- ------------------------------------------------------------------------------------------------------------------------ the largest of some values

-- a rule that acts and has the value x
pub record Reaching (S : Shape) (i v : ℕ) (f : ℕ → ℕ) (x : ℕ) : Type 0 where
  pub rule : ℕ
  pub acts : Acts S i v rule
  pub value : x ≡ f rule

pub record Largest (S : Shape) (i v : ℕ) (f : ℕ → ℕ) (x : ℕ) : Type 0 where
  pub high : (r : ℕ) → Acts S i v r → f r ≤ x
  pub some : (x ≡ 0) ⊎ Reaching S i v f x

-- of the first k rules
record LargestOf (S : Shape) (i v : ℕ) (f : ℕ → ℕ) (k x : ℕ) : Type 0 where
  high : (r : ℕ) → r < k → Acts S i v r → f r ≤ x
  some : (x ≡ 0) ⊎ Reaching S i v f x

acts_dec : (S : Shape) (i v r : ℕ) → r < S.rules → Dec (Acts S i v r)
acts_dec S i v r b =
    by_cases (Dec.and (ℕ_discrete (S.target r) v) (dec_le (S.offset r) i))
    (λ h. yes (record { is_rule = b; target = h.0; reached = h.1 }))
    (λ h. no (λ a. h (a.target, a.reached)))

module _ (S : Shape) (i v : ℕ) (f : ℕ → ℕ) where
  -- one rule more: the larger of the two
  one_more : (k x : ℕ) → LargestOf S i v f k x → Dec (Acts S i v k) → (y : ℕ) × LargestOf S i v f (suc k) y
  one_more k x l (no n) = (x, record { high = λ r b a. l.high r (below r b (λ e. n (subst (Acts S i v) e a))) a; some = l.some })
    where
      below : (r : ℕ) → r < suc k → ¬ (r ≡ k) → r < k
      below r b d = omega arith
  one_more k x l (yes a) =
      by_cases (dec_lt x (f k))
      (λ h. (f k, record { high = λ r b c. by_cases (ℕ_discrete r k) (λ e. omega (arith, ap f e)) (λ d. omega (arith, l.high r (omega arith) c)); some = inr (record { rule = k; acts = a; value = refl }) }))
      (λ h. (x, record { high = λ r b c. by_cases (ℕ_discrete r k) (λ e. omega (arith, ap f e)) (λ d. l.high r (omega arith) c); some = l.some }))

  first_of : (k : ℕ) → k ≤ S.rules → (x : ℕ) × LargestOf S i v f k x
  first_of zero h = (0, record { high = λ r b a. absurd (omega arith); some = inl refl })
  first_of (suc k) h = let (x, l) = first_of k (omega arith) in one_more k x l (acts_dec S i v k (omega arith))

  pub largest_exists : (x : ℕ) × Largest S i v f x
  largest_exists = let (x, l) = first_of S.rules (omega arith) in (x, record { high = λ r a. l.high r a.is_rule a; some = l.some })

pub largest_same : (S : Shape) (i v : ℕ) (f g : ℕ → ℕ) → ((r : ℕ) → Acts S i v r → f r ≡ g r) → (x y : ℕ) → Largest S i v f x → Largest S i v g y → x ≡ y
largest_same S i v f g same x y a b =
    le_antisymm
    (⊎_elim (λ z. omega arith) (λ c. omega (arith, c.value, same c.rule c.acts, b.high c.rule c.acts)) a.some)
    (⊎_elim (λ z. omega arith) (λ c. omega (arith, c.value, same c.rule c.acts, a.high c.rule c.acts)) b.some)

-- ------------------------------------------------------------------------------------------------------------------------------------ the times

-- a number above every value of a list
above : (X : List ℕ) → (R : ℕ) × ((v : ℕ) → get_or X v 0 < R)
above [] = (1, λ v. omega arith)
above (x ∷ X) = let (R, h) = above X in (suc (x + R), λ v. at R h v)
  where
    at : (R : ℕ) → ((v : ℕ) → get_or X v 0 < R) → (v : ℕ) → get_or (x ∷ X) v 0 < suc (x + R)
    at R h zero = omega arith
    at R h (suc v) = omega (arith, h v)

module _ (S : Shape) (D : ℕ → ℕ) where
  -- the time of occurrence i of v, looked for through k causes at most
  time : ℕ → ℕ → ℕ → ℕ
  time zero i v = 0
  time (suc k) i v = (largest_exists S i v (λ r. time k (i - S.offset r) (S.source r) + D r)).0

  module _ (rank : List ℕ) (ranks : ZeroRanks S rank) (R : ℕ) (most : (v : ℕ) → get_or rank v 0 < R) where
    -- how many causes there may be: by the occurrence, and within one by the rank
    causes : ℕ → ℕ → ℕ
    causes i v = i * R + get_or rank v 0

    -- of a rule that acts the source has fewer
    fewer : (i v r : ℕ) → Acts S i v r → causes (i - S.offset r) (S.source r) < causes i v
    unfolding causes
    fewer i v r a =
        by_cases (ℕ_discrete (S.offset r) 0)
        (λ z. let e : i - S.offset r ≡ i = omega arith in omega (arith, ap (λ x. x * R) e, ranks r a.is_rule z, ap (λ x. get_or rank x 0) a.target))
        (λ d. let l : suc (i - S.offset r) ≤ i = omega (arith, a.reached) in omega (arith, mul-le-mul_right R l, most (S.source r)))

    -- more causes than there may be change nothing
    enough : (k l i v : ℕ) → causes i v < k → causes i v < l → time k i v ≡ time l i v
    unfolding time
    enough zero l i v a b = absurd (omega arith)
    enough (suc k) zero i v a b = absurd (omega arith)
    enough (suc k) (suc l) i v a b =
        largest_same S i v _ _ (λ r h. ap (λ x. x + D r) (enough k l (i - S.offset r) (S.source r) (omega (arith, fewer i v r h)) (omega (arith, fewer i v r h)))) _ _
        (largest_exists S i v (λ r. time k (i - S.offset r) (S.source r) + D r)).1 (largest_exists S i v (λ r. time l (i - S.offset r) (S.source r) + D r)).1

    is_time : (i v : ℕ) → IsTime S D (λ j u. time (suc (causes j u)) j u) i v
    unfolding time
    is_time i v =
        let l = (largest_exists S i v (λ r. time (causes i v) (i - S.offset r) (S.source r) + D r)).1 in
        record {
          late_enough = λ r a. omega (arith, l.high r a, moved r a);
          no_later = ⊎_elim inl (λ c. inr (record { rule = c.rule; acts = c.acts; exact = c.value ∙ sym (moved c.rule c.acts) })) l.some;
        }
      where
        moved : (r : ℕ) → Acts S i v r → asked S D (λ j u. time (suc (causes j u)) j u) i r ≡ time (causes i v) (i - S.offset r) (S.source r) + D r
        moved r a = ap (λ x. x + D r) (enough (suc (causes (i - S.offset r) (S.source r))) (causes i v) (i - S.offset r) (S.source r) (omega arith) (fewer i v r a))

-- THERE ARE TIMES. The cause of a time is an earlier occurrence, or of lower rank, so that causes of causes end.
pub times_exist : (S : Shape) (D : ℕ → ℕ) (n : ℕ) → Fits S n → Live S → (T : ℕ → ℕ → ℕ) × ((i v : ℕ) → IsTime S D T i v)
times_exist S D n fits live =
    let (rank, ranks) = live_ranks S n fits live in
    let (R, most) = above rank in
    ((λ j u. time S D (suc (causes S D rank ranks R most j u)) j u), is_time S D rank ranks R most)

-- ------------------------------------------------------------------------------------------------------------------------------------ the buffer

-- f at, f (at + 1), .., as many as asked for
listed : (ℕ → ℕ) → ℕ → ℕ → List ℕ
listed f at zero = []
listed f at (suc k) = f at ∷ listed f (suc at) k

module _ (f : ℕ → ℕ) where
  length_listed : (at k : ℕ) → length (listed f at k) ≡ k
  unfolding listed
  length_listed at zero = refl
  length_listed at (suc k) = ap suc (length_listed (suc at) k)

  -- the front of a buffer that starts with them
  listed_at : (at k j : ℕ) (rest : List ℕ) → j < k → get_or (listed f at k ++ rest) j 0 ≡ f (at + j)
  unfolding listed
  listed_at at zero j rest b = absurd (omega arith)
  listed_at at (suc k) zero rest b = ap f (omega arith)
  listed_at at (suc k) (suc j) rest b = listed_at (suc at) k j rest (omega arith) ∙ ap f (omega arith)

-- THERE IS A BUFFER WITH THE TIMES
pub timed_exists : (S : Shape) (D : ℕ → ℕ) (N n : ℕ) → Fits S n → Live S → (out₀ : List ℕ) → N * n ≤ length out₀ → (out : List ℕ) × Timed S D N n out₀ out
timed_exists S D N n fits live out₀ room =
    let (T, are) = times_exist S D n fits live in
    let xs = listed (λ k. T (k / n) (k % n)) 0 (N * n) in
    let size : length xs ≡ N * n = length_listed (λ k. T (k / n) (k % n)) 0 (N * n) in (
      xs ++ drop (N * n) out₀,
      record {
        T = T;
        times = λ i v a b. are i v;
        size = length-append xs (drop (N * n) out₀) ∙ omega (arith, length-drop (N * n) out₀);
        rows = λ i v a b. listed_at (λ k. T (k / n) (k % n)) 0 (N * n) (i * n + v) (drop (N * n) out₀) (inside i v a b) ∙ at T i v b;
        rest = λ k h. past xs size k h;
      },
    )
  where
    inside : (i v : ℕ) → i < N → v < n → i * n + v < N * n
    inside i v a b = let l : suc i ≤ N = omega arith in omega (arith, mul-le-mul_right n l)

    at : (T : ℕ → ℕ → ℕ) (i v : ℕ) → v < n → T ((0 + (i * n + v)) / n) ((0 + (i * n + v)) % n) ≡ T i v
    at T i v b =
        let q : (0 + (i * n + v)) / n ≡ i = div-eq_of_lt-le n (omega arith) (omega arith) in
        let e : 0 + (i * n + v) ≡ i * n + v = omega arith in
        let m : (0 + (i * n + v)) % n ≡ v = ap (λ (x : ℕ). x % n) e ∙ mul-add-mod_self_right i n v ∙ mod-eq_of_lt b in
        ap (λ (x : ℕ). T x ((0 + (i * n + v)) % n)) q ∙ ap (T i) m

    past : (xs : List ℕ) → length xs ≡ N * n → (k : ℕ) → N * n ≤ k → get_or (xs ++ drop (N * n) out₀) k 0 ≡ get_or out₀ k 0
    past xs size k h =
        let e : length xs + (k - N * n) ≡ k = omega arith in
        let e' : N * n + (k - N * n) ≡ k = omega arith in
        subst (λ (j : ℕ). get_or (xs ++ drop (N * n) out₀) j 0 ≡ get_or (drop (N * n) out₀) (k - N * n) 0) e (get_or-append-add xs (drop (N * n) out₀) (k - N * n) 0)
        ∙ get_or-drop (N * n) out₀ (k - N * n) 0 ∙ ap (λ (j : ℕ). get_or out₀ j 0) e'
