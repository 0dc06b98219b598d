-- How far each transition is from v: the least number of rules, 1 or more, on a walk from it to v. 512 where there is none.
--
--   away_from v t d, far v d t   == 0 where t is v, else t's distance
--   Way S v x k                 == a walk of k rules, not empty, from x to v
--   Near S v d                  == every distance of d is that of a walk
--   Calm S v d r, Settled S v d == rule r shows no shorter walk from its source; no rule does
--   near_least, near_short      then no walk is shorter than d says, and a closed one has at most n rules
--   near_none, near_put         at first no walk is known; a distance put down
use Rattle.std.specs.Prelude.{◌≡◌, refl, ◌≢◌, List, [], ◌∷◌, ℕ, zero, suc, ◌+◌, ◌≤◌, ◌<◌, length, get_or, set, replicate}
use Rattle.std.proofs.Common.{sym, ap, ◌∙◌, arith, get_or-set_same, get_or-set_other}
use Rattle.std.proofs.Math.Logic.{by_cases, ite, if_pos, if_neg}
use Rattle.std.proofs.Math.Decide.{ℕ_discrete}
use Rattle.std.proofs.lemmas.List.{get_or-replicate}
use Rattle.model.specs.Shape.{Shape, Fits}
use Rattle.model.specs.Walk.{Walk}
use Rattle.theory.specs.Near.{closed_short}

-- how far t is from v, where the least number of rules, 1 or more, from t to v is d
unfoldable pub away_from : ℕ → ℕ → ℕ → ℕ
away_from v t d = ite (ℕ_discrete t v) 0 d

pub away_home : (v t d : ℕ) → t ≡ v → away_from v t d ≡ 0
unfolding away_from
away_home v t d e = if_pos (ℕ_discrete t v) e 0 d

pub away_other : (v t d : ℕ) → t ≢ v → away_from v t d ≡ d
unfolding away_from
away_other v t d n = if_neg (ℕ_discrete t v) n 0 d

pub away_most : (v t d : ℕ) → away_from v t d ≤ d
away_most v t d = by_cases (ℕ_discrete t v) (λ e. omega (arith, away_home v t d e)) (λ n. omega (arith, away_other v t d n))

-- the same, read from the distances d
abbrev pub far : ℕ → List ℕ → ℕ → ℕ
far v d t = away_from v t (get_or d t 0)

-- a walk of k rules, not empty, from x to v
pub record Way (S : Shape) (v x k : ℕ) : Type 0 where
  pub walk : List ℕ
  pub size : length walk ≡ k
  pub some_rule : 0 < k
  pub walks : Walk S x v walk

-- every distance below 512 is that of a walk
pub record Near (S : Shape) (v : ℕ) (d : List ℕ) : Type 0 where
  pub low : (x : ℕ) → get_or d x 0 ≤ 512
  pub attained : (x : ℕ) → x < 256 → get_or d x 0 < 512 → Way S v x (get_or d x 0)

-- rule r shows no shorter walk from its source
abbrev pub Calm : Shape → ℕ → List ℕ → ℕ → Type 0
Calm S v d r = get_or d (S.source r) 0 ≤ far v d (S.target r) + 1

-- no rule does
abbrev pub Settled : Shape → ℕ → List ℕ → Type 0
Settled S v d = (r : ℕ) → r < S.rules → Calm S v d r

low_far : (k x : ℕ) → get_or (replicate k 512) x 0 ≤ 512
low_far zero x = omega arith
low_far (suc k) zero = omega arith
low_far (suc k) (suc x) = low_far k x

-- at first no walk is known
pub near_none : (S : Shape) (v : ℕ) → Near S v (replicate 256 512)
near_none S v = record { low = low_far 256; attained = λ x b l. absurd (omega (arith, get_or-replicate {A = ℕ} 256 x 512 0 b)) }

module _ (S : Shape) (v : ℕ) (d : List ℕ) where
  -- NO WALK IS SHORTER
  pub near_least : Settled S v d → (x : ℕ) (rs : List ℕ) → 0 < length rs → Walk S x v rs → get_or d x 0 ≤ length rs
  near_least s x [] l h = absurd (omega arith)
  near_least s x (r ∷ []) l h = omega (arith, s r h.0, ap (λ y. get_or d y 0) h.1, away_home v (S.target r) (get_or d (S.target r) 0) h.2)
  near_least s x (r ∷ q ∷ qs) l h =
      omega (arith, s r h.0, ap (λ y. get_or d y 0) h.1, away_most v (S.target r) (get_or d (S.target r) 0), near_least s (S.target r) (q ∷ qs) (omega arith) h.2)

-- a distance is put down
pub near_put : (S : Shape) (v : ℕ) (d : List ℕ) (x k : ℕ) → Near S v d → x < length d → k ≤ 512 → Way S v x k → Near S v (set d x k)
near_put S v d x k near room low way =
    record {
      low = λ y. by_cases (ℕ_discrete y x) (λ e. rw (e, get_or-set_same d x k 0 room) low) (λ n. rw (get_or-set_other d x y k 0 n) (near.low y));
      attained = λ y b l. by_cases (ℕ_discrete y x)
          (λ e. rw (e, get_or-set_same d x k 0 room) way)
          (λ n. let o = get_or-set_other d x y k 0 n in rw o (near.attained y b (rw o at l)));
    }

-- a shortest closed walk is no longer than there are transitions
pub near_short : (S : Shape) (n v : ℕ) (d : List ℕ) → Fits S n → Near S v d → Settled S v d → v < 256 → get_or d v 0 < 512 → get_or d v 0 ≤ n
near_short S n v d fits near s b l = let w = near.attained v b l in short (get_or d v 0) refl w
  where
    short : (k : ℕ) → k ≡ get_or d v 0 → Way S v v (get_or d v 0) → get_or d v 0 ≤ n
    short zero e w = omega arith
    short (suc k) e w = omega (arith, closed_short S n fits v k w.walk (λ qs some h. omega (arith, near_least S v d s v qs some h)) (w.size ∙ sym e) w.walks)
