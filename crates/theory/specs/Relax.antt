-- Raising values until every rule is kept: each rule in turn raises its target to what it asks, pass after pass.
-- What the search comes to is the least schedule at P/Q, unless a loop is above P/Q.
--
--   Below X Y          == X is nowhere above Y
--   values S D P Q L k == the values after k passes from L zeros
--   passes_least       they stay below every schedule
--   passes_reach       after k passes a value is at least the weight of every walk of at most k rules that ends there
--   keeps_or_above     after n - 1 passes over n transitions they are a schedule, or there is a loop above P/Q
use Rattle.std.specs.Prelude.{◌≡◌, ◌≢◌, ◌⊎◌, length, set, replicate}
use Rattle.std.proofs.Math.Path.{refl, ap}
use Rattle.std.proofs.Common.{inl, inr, ⊎_elim, le_refl, length-set, get_or-set_same, get_or-set_other}
use Rattle.std.proofs.Math.Logic.{by_cases}
use mathlib.Core.List.{List, [], ◌∷◌, ◌++◌}
use Prim.Native.Nat.{ℕ, zero, suc, ◌+◌, ◌*◌, ◌-◌, ◌≤◌, ◌<◌, max}
use native.Mathlib.Omega.{arith}
use Rattle.std.proofs.Math.Nat.{le_trans, max-eq_left, max-eq_right}
use Rattle.std.proofs.Math.Decide.{ℕ_discrete, dec_le, dec_lt}
use Rattle.std.proofs.Math.ListN.{get_or}
use Rattle.model.specs.Shape.{Shape, Fits}
use Rattle.model.specs.Sums.{delays, offsets}
use Rattle.model.specs.Walk.{Walk}
use Rattle.model.specs.Schedule.{Keeps}
use Rattle.theory.specs.Search.{all_or_fails}
use Rattle.theory.specs.Sums.{delays_append, offsets_append}
use Rattle.theory.specs.Walk.{walk_append, path_short, LoopAbove, Shortened, shorten}

abbrev pub Below : List ℕ → List ℕ → Type 0
Below X Y = (v : ℕ) → get_or X v 0 ≤ get_or Y v 0

-- every value of a list of zeros is 0, also past its end
pub zeros_at : (n v : ℕ) → get_or {A = ℕ} (replicate n 0) v 0 ≡ 0
zeros_at zero v = refl
zeros_at (suc n) zero = refl
zeros_at (suc n) (suc v) = zeros_at n v

module _ (S : Shape) (D : ℕ → ℕ) (P Q : ℕ) where
  -- what rule r asks of its target
  abbrev pub asked : List ℕ → ℕ → ℕ
  asked X r = get_or X (S.source r) 0 + Q * D r - P * S.offset r

  -- rule r raises its target to what it asks, or leaves it
  abbrev pub relax : List ℕ → ℕ → List ℕ
  relax X r = set X (S.target r) (max (get_or X (S.target r) 0) (asked X r))

  -- the first k rules in turn; all of them; k passes over all of them
  unfoldable pub relaxed : ℕ → List ℕ → List ℕ
  relaxed zero X = X
  relaxed (suc k) X = relax (relaxed k X) k

  abbrev pub pass : List ℕ → List ℕ
  pass X = relaxed S.rules X

  unfoldable pub passes : ℕ → List ℕ → List ℕ
  passes zero X = X
  passes (suc k) X = passes k (pass X)

  -- the values after k passes from L zeros
  abbrev pub values : ℕ → ℕ → List ℕ
  values L k = passes k (replicate L 0)

  -- lengths stay
  pub length_relaxed : (k : ℕ) (X : List ℕ) → length (relaxed k X) ≡ length X
  unfolding relaxed
  length_relaxed zero X = refl
  length_relaxed (suc k) X = simp (length-set, length_relaxed k X)

  pub length_passes : (k : ℕ) (X : List ℕ) → length (passes k X) ≡ length X
  unfolding passes
  length_passes zero X = refl
  length_passes (suc k) X = simp (length_passes k, length_relaxed)

  module _ (n : ℕ) (fits : Fits S n) where
    -- the values after rule r: the target's, and the others
    relax_dst : (X : List ℕ) (r : ℕ) → n ≤ length X → r < S.rules → get_or (relax X r) (S.target r) 0 ≡ max (get_or X (S.target r) 0) (asked X r)
    relax_dst X r e b = get_or-set_same X (S.target r) _ 0 (omega (arith, fits r b))

    relax_other : (X : List ℕ) (r v : ℕ) → v ≢ S.target r → get_or (relax X r) v 0 ≡ get_or X v 0
    relax_other X r v d = get_or-set_other X (S.target r) v _ 0 d

    -- a fact of the old value and of the target's new one is a fact of each new value
    pub relax_cases : (X : List ℕ) (r : ℕ) (C : ℕ → ℕ → Type 0) → n ≤ length X → r < S.rules
        → ((v : ℕ) → C v (get_or X v 0)) → C (S.target r) (max (get_or X (S.target r) 0) (asked X r)) → (v : ℕ) → C v (get_or (relax X r) v 0)
    relax_cases X r C e b old new v =
        by_cases (ℕ_discrete v (S.target r))
        (λ s. rw (s, relax_dst X r e b) new)
        (λ d. rw (relax_other X r v d) (old v))

    -- values only rise
    pub relax_up : (X : List ℕ) (r : ℕ) → n ≤ length X → r < S.rules → Below X (relax X r)
    relax_up X r e b = relax_cases X r (λ v x. get_or X v 0 ≤ x) e b (λ v. omega arith) (omega arith)

    pub relaxed_up : (X : List ℕ) (j k : ℕ) → n ≤ length X → j ≤ k → k ≤ S.rules → Below (relaxed j X) (relaxed k X)
    unfolding relaxed
    relaxed_up X j zero e jk b v = let s : j ≡ 0 = omega arith in rw s (le_refl _)
    relaxed_up X j (suc k) e jk b v =
        by_cases (dec_le j k)
        (λ l. le_trans (relaxed_up X j k e l (omega arith) v) (relax_up (relaxed k X) k (omega (arith, length_relaxed k X)) b v))
        (λ l. let s : j ≡ suc k = omega arith in rw s (le_refl _))

    pub pass_up : (X : List ℕ) → n ≤ length X → Below X (pass X)
    unfolding relaxed
    pass_up X e v = relaxed_up X 0 S.rules e (omega arith) (le_refl _) v

    -- what is below a schedule stays below it
    module _ (Y : List ℕ) (keeps : Keeps S D P Q Y) where
      relaxed_least : (X : List ℕ) (k : ℕ) → n ≤ length X → k ≤ S.rules → Below X Y → Below (relaxed k X) Y
      unfolding relaxed
      relaxed_least X zero e b l = l
      relaxed_least X (suc k) e b l =
          let ih = relaxed_least X k e (omega arith) l in
          relax_cases (relaxed k X) k (λ v x. x ≤ get_or Y v 0) (omega (arith, length_relaxed k X)) b
          ih
          (omega (arith, ih (S.source k), ih (S.target k), keeps k b))

      pub passes_least : (X : List ℕ) (k : ℕ) → n ≤ length X → Below X Y → Below (passes k X) Y
      unfolding passes
      passes_least X zero e l = l
      passes_least X (suc k) e l = passes_least (pass X) k (omega (arith, length_relaxed S.rules X)) (relaxed_least X S.rules e (le_refl _) l)

    -- in a pass the value of every rule's target comes to what the rule asked before the pass
    pass_asks : (X : List ℕ) (r : ℕ) → n ≤ length X → r < S.rules → get_or X (S.source r) 0 + Q * D r ≤ get_or (pass X) (S.target r) 0 + P * S.offset r
    unfolding relaxed
    pass_asks X r e b =
        omega (
          arith,
          relaxed_up X 0 r e (omega arith) (omega arith) (S.source r),
          relax_dst (relaxed r X) r (omega (arith, length_relaxed r X)) b,
          relaxed_up X (suc r) S.rules e b (le_refl _) (S.target r),
        )

    -- after k passes a value is at least the weight of every walk of at most k rules that ends there
    pub passes_reach : (k : ℕ) (X : List ℕ) (u w : ℕ) (rs : List ℕ) → n ≤ length X → length rs ≤ k → Walk S u w rs
        → get_or X u 0 + Q * delays D rs ≤ get_or (passes k X) w 0 + P * offsets S rs
    unfolding passes
    passes_reach zero X u w [] e b h = omega (arith, ap (λ v. get_or X v 0) h)
    passes_reach zero X u w (r ∷ rs) e b h = absurd (omega arith)
    passes_reach (suc k) X u w [] e b h = omega (arith, passes_reach k (pass X) u w [] (omega (arith, length_relaxed S.rules X)) (omega arith) h, pass_up X e u)
    passes_reach (suc k) X u w (r ∷ rs) e b h =
        omega (
          arith,
          ap (λ v. get_or X v 0) h.1,
          pass_asks X r e h.0,
          passes_reach k (pass X) (S.target r) w rs (omega (arith, length_relaxed S.rules X)) (omega arith) h.2,
        )

module _ (S : Shape) (D : ℕ → ℕ) (P Q n : ℕ) (fits : Fits S n) (X₀ : List ℕ) (len : n ≤ length X₀) where
  -- x is at most a value of X₀ and the weight of a walk from there to v
  pub record Attained (v x : ℕ) : Type 0 where
    pub start : ℕ
    pub start_below : start < n
    pub walk : List ℕ
    pub walks : Walk S start v walk
    pub weight : x + P * offsets S walk ≤ get_or X₀ start 0 + Q * delays D walk

  abbrev pub AllAttained : List ℕ → Type 0
  AllAttained X = (v : ℕ) → v < n → Attained v (get_or X v 0)

  start_attained : AllAttained X₀
  start_attained v b = record { start = v; start_below = b; walk = []; walks = refl; weight = omega arith }

  -- a walk to the source of a rule goes on to its target
  attained_rule : (X : List ℕ) (r : ℕ) → r < S.rules → Attained (S.source r) (get_or X (S.source r) 0) → get_or X (S.target r) 0 < asked S D P Q X r → Attained (S.target r) (asked S D P Q X r)
  attained_rule X r b a h =
      record {
        start = a.start;
        start_below = a.start_below;
        walk = a.walk ++ (r ∷ []);
        walks = walk_append S a.start (S.source r) (S.target r) a.walk (r ∷ []) a.walks (b, refl, refl);
        weight = omega (arith, ap (λ x. P * x) (offsets_append S a.walk (r ∷ [])), ap (λ x. Q * x) (delays_append D a.walk (r ∷ [])));
      }

  attained_max : (v x y : ℕ) → Attained v x → (x < y → Attained v y) → Attained v (max x y)
  attained_max v x y a f =
      by_cases (dec_lt x y)
      (λ l. let h : x ≤ y = omega arith in rw max-eq_right (f l))
      (λ l. let h : y ≤ x = omega arith in rw max-eq_left a)

  -- every value is attained, after some rules and after some passes
  pub relaxed_attained : (X : List ℕ) (k : ℕ) → n ≤ length X → k ≤ S.rules → AllAttained X → AllAttained (relaxed S D P Q k X)
  unfolding relaxed
  relaxed_attained X zero e b a = a
  relaxed_attained X (suc k) e b a =
      let ih = relaxed_attained X k e (omega arith) a in
      relax_cases S D P Q n fits (relaxed S D P Q k X) k (λ v x. v < n → Attained v x) (omega (arith, length_relaxed S D P Q k X)) b ih
      (λ d. attained_max (S.target k) _ _ (ih (S.target k) d) (attained_rule (relaxed S D P Q k X) k b (ih (S.source k) (fits k b).0)))

  passes_attained : (k : ℕ) (X : List ℕ) → n ≤ length X → AllAttained X → AllAttained (passes S D P Q k X)
  unfolding passes
  passes_attained zero X e a = a
  passes_attained (suc k) X e a =
      passes_attained k (pass S D P Q X) (omega (arith, length_relaxed S D P Q S.rules X)) (relaxed_attained X S.rules e (le_refl _) a)

  pub values_attained : (k : ℕ) → AllAttained (passes S D P Q k X₀)
  values_attained k = passes_attained k X₀ len start_attained

  -- a value that k passes do not reach, for a k of at least n - 1, shows a loop above P/Q
  pub raised_above : (k v x : ℕ) → n ≤ suc k → Attained v x → get_or (passes S D P Q k X₀) v 0 < x → LoopAbove S D P Q
  raised_above k v x m a l =
      ⊎_elim (λ o. o) (λ t. absurd (no_path t)) (shorten S D P Q (suc (length a.walk)) a.start v a.walk (omega arith) a.walks)
    where
      no_path : Shortened S D P Q a.start v a.walk → ⊥
      no_path t =
          let short = path_short S n fits a.start v t.path a.start_below t.walks t.distinct in
          omega (arith, a.weight, t.heavy, passes_reach S D P Q n fits k X₀ a.start v t.path len (omega arith) t.walks)

  -- A SCHEDULE, OR A LOOP ABOVE. Every value is the weight of some walk. One that is still too low for a rule is that of a walk of n rules or more,
  -- which comes apart into loops and a path; the path is too short to have been missed, so one of the loops is above P/Q.
  -- So after n - 1 passes, or more, the values are a schedule, or there is a loop above P/Q
  pub keeps_or_above : (k : ℕ) → n ≤ suc k → Keeps S D P Q (passes S D P Q k X₀) ⊎ LoopAbove S D P Q
  keeps_or_above k m = ⊎_elim inl (λ f. inr (unkept f.at f.at_below f.fails)) (all_or_fails Kept (λ r. dec_le _ _) S.rules)
    where
      X : List ℕ
      X = passes S D P Q k X₀

      Kept : ℕ → Type 0
      Kept r = get_or X (S.source r) 0 + Q * D r ≤ get_or X (S.target r) 0 + P * S.offset r

      unkept : (r : ℕ) → r < S.rules → ¬ (Kept r) → LoopAbove S D P Q
      unkept r b u =
          let h : get_or X (S.target r) 0 < asked S D P Q X r = omega arith in
          raised_above k (S.target r) (asked S D P Q X r) m (attained_rule X r b (values_attained k (S.source r) (fits r b).0) h) h
