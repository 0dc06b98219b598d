-- Which rule last raised each transition: its parent. Every closed walk of parents is above P/Q, whatever was raised in which order; and from a
-- transition that is raised after n - 1 passes no walk of parents leads back to one without a parent, so following them comes round.
--
--   Parent, Parents          == rule r, every rule of rs, is the parent of its target
--   Sound S D P Q X par      == what holds of the values X and the parents par at every moment
--   sound_start, sound_raise     it holds of zeros, and stays when a rule raises its target
--   Grounded S n par v       == a walk of parents leads to v from a transition that has none
--   grounded_step            so it does to the end of every walk of parents from v
--   raised_not_grounded      a value raised after n - 1 passes is not grounded
use Rattle.std.specs.Prelude.{◌≡◌, refl, ◌≢◌, ◌⊎◌, List, [], ◌∷◌, ◌++◌, ℕ, zero, suc, ◌+◌, ◌*◌, ◌-◌, ◌≤◌, ◌<◌, length, get_or, set, replicate}
use Rattle.std.proofs.Common.{sym, ap, subst, inl, inr, ⊎_elim, arith, get_or-set_same, get_or-set_other}
use Rattle.std.proofs.Math.Logic.{⊎_map, by_cases}
use Rattle.std.proofs.Math.Decide.{ℕ_discrete}
use Rattle.model.specs.Shape.{Shape, Fits}
use Rattle.model.specs.Sums.{delays, offsets}
use Rattle.model.specs.Distinct.{Distinct}
use Rattle.model.specs.Walk.{Walk, visits}
use Rattle.model.specs.Period.{Above}
use Rattle.theory.specs.Walk.{walk_append, splits_shorter, path_or_splits, path_short}
use Rattle.theory.specs.Relax.{zeros_at}

-- what rule r asks of its target
abbrev pub asks : Shape → (ℕ → ℕ) → ℕ → ℕ → List ℕ → ℕ → ℕ
asks S D P Q X r = get_or X (S.source r) 0 + Q * D r - P * S.offset r

module _ (S : Shape) where
  -- rule r is the parent of its target, and every rule of rs is: `par` holds r + 1 where r is the parent, and 0 where there is none
  abbrev pub Parent : List ℕ → ℕ → Type 0
  Parent par r = get_or par (S.target r) 0 ≡ suc r

  abbrev pub Parents : List ℕ → List ℕ → Type 0
  Parents par [] = Unit {0}
  Parents par (r ∷ rs) = Parent par r × Parents par rs

  -- joined, and without a part in the middle
  pub parents_append : (par rs ss : List ℕ) → Parents par rs → Parents par ss → Parents par (rs ++ ss)
  parents_append par [] ss p q = q
  parents_append par (r ∷ rs) ss p q = (p.0, parents_append par rs ss p.1 q)

  parents_without : (par rs ls ss : List ℕ) → Parents par (rs ++ (ls ++ ss)) → Parents par (rs ++ ss)
  parents_without par [] [] ss p = p
  parents_without par [] (l ∷ ls) ss p = parents_without par [] ls ss p.1
  parents_without par (r ∷ rs) ls ss p = (p.0, parents_without par rs ls ss p.1)

module _ (S : Shape) (D : ℕ → ℕ) (P Q : ℕ) where
  -- what holds of the values X and the parents par at every moment
  pub record Sound (X par : List ℕ) : Type 0 where
    pub valid : (v r : ℕ) → get_or par v 0 ≡ suc r → (r < S.rules) × (S.target r ≡ v)
    pub rises : (r : ℕ) → r < S.rules → Parent S par r → get_or X (S.target r) 0 + P * S.offset r ≤ get_or X (S.source r) 0 + Q * D r
    pub roots : (v : ℕ) → get_or par v 0 ≡ 0 → get_or X v 0 ≡ 0
    pub cycles : (u r : ℕ) (rs : List ℕ) → Walk S u u (r ∷ rs) → Parents S par (r ∷ rs) → Above S D P Q (r ∷ rs)

  -- zeros, with no parent, are sound
  pub sound_start : (n : ℕ) → Sound (replicate n 0) (replicate n 0)
  sound_start n =
      record {
        valid = λ v r e. absurd (omega (arith, zeros_at n v));
        rises = λ r b p. absurd (no_parent r p);
        roots = λ v e. zeros_at n v;
        cycles = λ u r rs h p. absurd (no_parent r p.0);
      }
    where
      no_parent : (r : ℕ) → ¬ (Parent S (replicate n 0) r)
      no_parent r p = omega (arith, p, zeros_at n (S.target r))

  -- over a walk of parents the values rise by at most its weight
  pub parents_rise : (X par : List ℕ) → Sound X par → (u w : ℕ) (rs : List ℕ) → Walk S u w rs → Parents S par rs
      → get_or X w 0 + P * offsets S rs ≤ get_or X u 0 + Q * delays D rs
  parents_rise X par s u w [] h p = omega (arith, ap (λ v. get_or X v 0) h)
  parents_rise X par s u w (r ∷ rs) h p =
      omega (arith, ap (λ v. get_or X v 0) h.1, s.rises r h.0 p.0, parents_rise X par s (S.target r) w rs h.2 p.1)

  -- rule r raises its target, and becomes its parent
  module _ (X par : List ℕ) (s : Sound X par) (r : ℕ) (b : r < S.rules) (in_x : S.target r < length X) (in_par : S.target r < length par) (raises : get_or X (S.target r) 0 < asks S D P Q X r) where
    abbrev pub X' : List ℕ
    X' = set X (S.target r) (asks S D P Q X r)

    abbrev pub par' : List ℕ
    par' = set par (S.target r) (suc r)

    -- values only rise; the target's is new, the others are old
    x'_dst : get_or X' (S.target r) 0 ≡ asks S D P Q X r
    x'_dst = get_or-set_same X (S.target r) (asks S D P Q X r) 0 in_x

    x'_other : (v : ℕ) → v ≢ S.target r → get_or X' v 0 ≡ get_or X v 0
    x'_other v d = get_or-set_other X (S.target r) v (asks S D P Q X r) 0 d

    x'_up : (v : ℕ) → get_or X v 0 ≤ get_or X' v 0
    x'_up v = by_cases (ℕ_discrete v (S.target r)) (λ e. rw e (omega (arith, x'_dst))) (λ d. omega (arith, x'_other v d))

    -- a new parent is r, or an old parent of another transition
    new_parent : (q : ℕ) → Parent S par' q → (q ≡ r) ⊎ ((S.target q ≢ S.target r) × Parent S par q)
    new_parent q p =
        by_cases (ℕ_discrete (S.target q) (S.target r))
        (λ e. inl (omega (arith, p, ap (λ v. get_or par' v 0) e, get_or-set_same par (S.target r) (suc r) 0 in_par)))
        (λ d. inr (d, rw (get_or-set_other par (S.target r) (S.target q) (suc r) 0 d) at p))

    -- over r the old values rise by less than its weight, and over every new parent by at most that
    less_at_r : (q : ℕ) → q ≡ r → get_or X (S.target q) 0 + P * S.offset q < get_or X (S.source q) 0 + Q * D q
    less_at_r q e = rw e (omega arith)

    old_rises : (q : ℕ) → q < S.rules → Parent S par' q → get_or X (S.target q) 0 + P * S.offset q ≤ get_or X (S.source q) 0 + Q * D q
    old_rises q c p = ⊎_elim (λ e. omega (arith, less_at_r q e)) (λ o. s.rises q c o.1) (new_parent q p)

    -- so they do over a walk of new parents
    old_rise : (u w : ℕ) (qs : List ℕ) → Walk S u w qs → Parents S par' qs → get_or X w 0 + P * offsets S qs ≤ get_or X u 0 + Q * delays D qs
    old_rise u w [] h p = omega (arith, ap (λ v. get_or X v 0) h)
    old_rise u w (q ∷ qs) h p =
        omega (arith, ap (λ v. get_or X v 0) h.1, old_rises q h.0 p.0, old_rise (S.target q) w qs h.2 p.1)

    -- and by less if r is in the walk; if it is not, the walk is one of old parents
    old_or_less : (u w : ℕ) (qs : List ℕ) → Walk S u w qs → Parents S par' qs
        → Parents S par qs ⊎ (get_or X w 0 + P * offsets S qs < get_or X u 0 + Q * delays D qs)
    old_or_less u w [] h p = inl tt
    old_or_less u w (q ∷ qs) h p =
        ⊎_elim
        (λ e. inr (omega (arith, ap (λ v. get_or X v 0) h.1, less_at_r q e, old_rise (S.target q) w qs h.2 p.1)))
        (λ o. ⊎_map (λ os. (o.1, os)) (λ l. omega (arith, ap (λ v. get_or X v 0) h.1, s.rises q h.0 o.1)) (old_or_less (S.target q) w qs h.2 p.1))
        (new_parent q p.0)

    -- SOUND STAYS SOUND
    pub sound_raise : Sound X' par'
    sound_raise = record { valid = valid'; rises = rises'; roots = roots'; cycles = λ u q qs h p. ⊎_elim (s.cycles u q qs h) (λ l. omega arith) (old_or_less u u (q ∷ qs) h p) }
      where
        valid' : (v q : ℕ) → get_or par' v 0 ≡ suc q → (q < S.rules) × (S.target q ≡ v)
        valid' v q e =
            by_cases (ℕ_discrete v (S.target r))
            (λ d. let same : q ≡ r = omega (arith, ap (λ v. get_or par' v 0) d, get_or-set_same par (S.target r) (suc r) 0 in_par) in (rw same b, rw same (sym d)))
            (λ d. s.valid v q (rw (get_or-set_other par (S.target r) v (suc r) 0 d) at e))

        rises' : (q : ℕ) → q < S.rules → Parent S par' q → get_or X' (S.target q) 0 + P * S.offset q ≤ get_or X' (S.source q) 0 + Q * D q
        rises' q c p =
            ⊎_elim
            (λ e. rw e (omega (arith, x'_dst, x'_up (S.source r))))
            (λ o. omega (arith, x'_other (S.target q) o.0, x'_up (S.source q), s.rises q c o.1))
            (new_parent q p)

        roots' : (v : ℕ) → get_or par' v 0 ≡ 0 → get_or X' v 0 ≡ 0
        roots' v e =
            by_cases (ℕ_discrete v (S.target r))
            (λ d. absurd (omega (arith, ap (λ v. get_or par' v 0) d, get_or-set_same par (S.target r) (suc r) 0 in_par)))
            (λ d. omega (arith, x'_other v d, s.roots v (rw (get_or-set_other par (S.target r) v (suc r) 0 d) at e)))

-- v is grounded
pub record Grounded (S : Shape) (n : ℕ) (par : List ℕ) (v : ℕ) : Type 0 where
  pub root : ℕ
  pub root_below : root < n
  pub no_parent : get_or par root 0 ≡ 0
  pub walk : List ℕ
  pub walks : Walk S root v walk
  pub parents : Parents S par walk

module _ (S : Shape) (n : ℕ) (par : List ℕ) where
  pub grounded_root : (v : ℕ) → v < n → get_or par v 0 ≡ 0 → Grounded S n par v
  grounded_root v b e = record { root = v; root_below = b; no_parent = e; walk = []; walks = refl; parents = tt }

  pub grounded_step : (v w : ℕ) (rs : List ℕ) → Grounded S n par v → Walk S v w rs → Parents S par rs → Grounded S n par w
  grounded_step v w rs g h p =
      record {
        root = g.root;
        root_below = g.root_below;
        no_parent = g.no_parent;
        walk = g.walk ++ rs;
        walks = walk_append S g.root v w g.walk rs g.walks h;
        parents = parents_append S par g.walk rs g.parents p;
      }

  -- a walk of parents, shortened to a path of parents. (k: the depth of the recursion)
  record Path (u v : ℕ) : Type 0 where
    path : List ℕ
    path_walks : Walk S u v path
    path_parents : Parents S par path
    distinct : Distinct (visits S v path)

  shortened : (k u v : ℕ) (rs : List ℕ) → length rs < k → Walk S u v rs → Parents S par rs → Path u v
  shortened zero u v rs b h p = absurd (omega arith)
  shortened (suc k) u v rs b h p =
      ⊎_elim
      (λ d. record { path = rs; path_walks = h; path_parents = p; distinct = d })
      (λ s. shortened k u v (s.front ++ s.back) (omega (arith, splits_shorter S u v rs s)) s.rest (parents_without S par s.front s.loop s.back (subst (Parents S par) s.whole p)))
      (path_or_splits S u v rs h)

  -- A VALUE RAISED AFTER n - 1 PASSES IS NOT GROUNDED. A path of parents from a transition without one has less than n rules; the value before the
  -- pass was at least its weight, and the value after it is at most that.
  pub raised_not_grounded : (D : ℕ → ℕ) (P Q : ℕ) (X₀ X : List ℕ) (k v : ℕ) → Fits S n → Sound S D P Q X par → n ≤ suc k
      → ((u w : ℕ) (rs : List ℕ) → length rs ≤ k → Walk S u w rs → Q * delays D rs ≤ get_or X₀ w 0 + P * offsets S rs)
      → get_or X₀ v 0 < get_or X v 0 → ¬ (Grounded S n par v)
  raised_not_grounded D P Q X₀ X k v fits s enough reach raised g =
      let t = shortened (suc (length g.walk)) g.root v g.walk (omega arith) g.walks g.parents in
      let short = path_short S n fits g.root v t.path g.root_below t.path_walks t.distinct in
      omega (
        arith,
        parents_rise S D P Q X par s g.root v t.path t.path_walks t.path_parents,
        s.roots g.root g.no_parent,
        reach g.root v t.path (omega arith) t.path_walks,
      )
