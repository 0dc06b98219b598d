-- Peeling: strike out any transition that no remaining rule enters, or none leaves, until nothing more can be struck; a remnant means that there is a loop.
-- Place v of the list `alive` holds 1 while transition v remains.
--
--   Remains S alive r           == rule r remains: both its ends do
--   Entered, Left S alive v     == a remaining rule enters v; one leaves v
--   Loose S alive v             == no remaining rule enters v, or none leaves it
--   StruckOut C n alive vs after   == the transitions vs, struck out of alive one after the other, each when C holds of it, leave after
--   Remnant S n alive           == what is left of n transitions when nothing more can be struck
--   held                        what holds on to itself is never struck
--   remnant_unique              the order of striking does not matter
--   Stays, remnant_stays        == every transition on a closed walk remains
--   remnant_loop, loop_remnant  A REMNANT IS LEFT EXACTLY WHEN THERE IS A LOOP
--   zero_remnant, remnant_zero  and of the rules of offset 0, exactly when some loop has offset sum 0
use Rattle.std.specs.Prelude.{◌≡◌, refl, ◌⊎◌, List, [], ◌∷◌, map, ℕ, zero, suc, ◌≤◌, ◌<◌, length, get_or, set, replicate}
use Rattle.std.proofs.Common.{ap, subst, ⊎_elim, arith, get_or-set_other}
use Rattle.std.proofs.Math.Decide.{ℕ_discrete}
use Rattle.std.proofs.lemmas.List.{get_or-replicate}
use Rattle.model.specs.Shape.{Shape, Fits}
use Rattle.model.specs.Sums.{offsets}
use Rattle.model.specs.Walk.{Walk}
use Rattle.model.specs.Loop.{Loop, SomeLoop}
use Rattle.theory.specs.Sums.{zero_all, all_zero}
use Rattle.theory.specs.Walk.{path_or_splits, path_short}
use Rattle.theory.specs.Near.{Closed, closed_leaves, closed_enters, Picks, named_loop, picked_none}
use Rattle.theory.specs.Loop.{loop_start}
use Rattle.theory.specs.Search.{none_or_first}

-- a rule remains while both its ends do
pub record Remains (S : Shape) (alive : List ℕ) (r : ℕ) : Type 0 where
  pub is_rule : r < S.rules
  pub source_remains : get_or alive (S.source r) 0 ≡ 1
  pub target_remains : get_or alive (S.target r) 0 ≡ 1

-- a remaining rule enters v
pub record Entered (S : Shape) (alive : List ℕ) (v : ℕ) : Type 0 where
  pub rule : ℕ
  pub remains : Remains S alive rule
  pub enters : S.target rule ≡ v

-- a remaining rule leaves v
pub record Left (S : Shape) (alive : List ℕ) (v : ℕ) : Type 0 where
  pub rule : ℕ
  pub remains : Remains S alive rule
  pub leaves : S.source rule ≡ v

-- no remaining rule enters v, or none leaves it
abbrev pub Loose : Shape → List ℕ → ℕ → Type 0
Loose S alive v = (¬ (Entered S alive v)) ⊎ (¬ (Left S alive v))

-- the transitions vs, each below n and remaining, are struck out of alive one after the other, each when C holds of it; what is left is after
abbrev pub StruckOut : (List ℕ → ℕ → Type 0) → ℕ → List ℕ → List ℕ → List ℕ → Type 0
StruckOut C n alive [] after = alive ≡ after
StruckOut C n alive (v ∷ vs) after = (v < n) × (get_or alive v 0 ≡ 1) × C alive v × StruckOut C n (set alive v 0) vs after

-- loose transitions were struck out, and nothing more can be struck: each that remains is entered by a remaining rule, and left by one
pub record Remnant (S : Shape) (n : ℕ) (alive : List ℕ) : Type 0 where
  pub struck : List ℕ
  pub strikes : StruckOut (Loose S) n (replicate 256 1) struck alive
  pub entered : (v : ℕ) → v < n → get_or alive v 0 ≡ 1 → Entered S alive v
  pub left : (v : ℕ) → v < n → get_or alive v 0 ≡ 1 → Left S alive v

-- ---------------------------------------------------------------------------------------------------------------------------------------- laws

-- a rule with one end at v, whose other end is of the kind P
pub record Hold (S : Shape) (P : ℕ → Type 0) (at other : ℕ → ℕ) (v : ℕ) : Type 0 where
  pub rule : ℕ
  pub is_rule : rule < S.rules
  pub meets : at rule ≡ v
  pub on : P (other rule)

module _ (S : Shape) (n : ℕ) (P : ℕ → Type 0) (enters : (v : ℕ) → P v → Hold S P (S.target) (S.source) v) (leaves : (v : ℕ) → P v → Hold S P (S.source) (S.target) v) where
  -- TRANSITIONS THAT ARE ENTERED AND LEFT BY RULES AMONG THEMSELVES KEEP EACH OTHER FROM BEING STRUCK
  pub held : (alive vs after : List ℕ) → StruckOut (Loose S) n alive vs after → ((v : ℕ) → P v → get_or alive v 0 ≡ 1) → (v : ℕ) → P v → get_or after v 0 ≡ 1
  held alive [] after h all v p = subst (λ (l : List ℕ). get_or l v 0 ≡ 1) h (all v p)
  held alive (u ∷ us) after h all v p = held (set alive u 0) us after h.3 (λ w q. rw (get_or-set_other alive u w 0 0 (λ e. stays (rw e at q))) (all w q)) v p
    where
      -- u is not one of them
      stays : P u → ⊥
      stays q =
          ⊎_elim
          (λ none. let i = enters u q in none (record { rule = i.rule; remains = record { is_rule = i.is_rule; source_remains = all _ i.on; target_remains = rw i.meets h.1 }; enters = i.meets }))
          (λ none. let o = leaves u q in none (record { rule = o.rule; remains = record { is_rule = o.is_rule; source_remains = rw o.meets h.1; target_remains = all _ o.on }; leaves = o.meets }))
          h.2

module _ (S : Shape) (n : ℕ) (fits : Fits S n) (few : n ≤ 256) where
  -- THE ORDER OF STRIKING DOES NOT MATTER
  pub remnant_unique : (a b : List ℕ) → Remnant S n a → Remnant S n b → (v : ℕ) → v < n → get_or b v 0 ≡ 1 → get_or a v 0 ≡ 1
  remnant_unique a b ra rb v l e =
      held S n (λ w. (w < n) × (get_or b w 0 ≡ 1))
      (λ w p. let i = rb.entered w p.0 p.1 in record { rule = i.rule; is_rule = i.remains.is_rule; meets = i.enters; on = ((fits i.rule i.remains.is_rule).0, i.remains.source_remains) })
      (λ w p. let o = rb.left w p.0 p.1 in record { rule = o.rule; is_rule = o.remains.is_rule; meets = o.leaves; on = ((fits o.rule o.remains.is_rule).1, o.remains.target_remains) })
      (replicate 256 1) ra.struck a ra.strikes
      (λ w p. get_or-replicate {A = ℕ} 256 w 1 0 (omega (arith, p.0)))
      v (l, e)

-- every transition on a closed walk remains
abbrev pub Stays : Shape → List ℕ → Type 0
Stays S alive = (u : ℕ) → Closed S u → get_or alive u 0 ≡ 1

module _ (S : Shape) (n : ℕ) (fits : Fits S n) (few : n ≤ 256) (alive : List ℕ) (remnant : Remnant S n alive) where
  pub remnant_stays : Stays S alive
  remnant_stays =
      held S n (Closed S)
      (λ w p. let i = closed_enters S w p in record { rule = i.rule; is_rule = i.is_rule; meets = i.meets; on = i.on })
      (λ w p. let o = closed_leaves S w p in record { rule = o.rule; is_rule = o.is_rule; meets = o.meets; on = o.on })
      (replicate 256 1) remnant.struck alive remnant.strikes
      (λ w p. let o = closed_leaves S w p in get_or-replicate {A = ℕ} 256 w 1 0 (omega (arith, o.meets, fits o.rule o.is_rule)))

  -- A LOOP LEAVES A REMNANT
  pub loop_remnant : (u : ℕ) (rs : List ℕ) → Loop S u rs → get_or alive u 0 ≡ 1
  loop_remnant u rs l = remnant_stays u (record { walk = rs; some_rule = l.some_rule; closed = l.closed })

  -- from a transition that remains there are walks of every length: a remaining rule leaves each that is come to
  pub record Onward (k v : ℕ) : Type 0 where
    pub to : ℕ
    pub walk : List ℕ
    pub size : length walk ≡ k
    pub walks : Walk S v to walk

  onward : (k v : ℕ) → v < n → get_or alive v 0 ≡ 1 → Onward k v
  onward zero v l e = record { to = v; walk = []; size = refl; walks = refl }
  onward (suc k) v l e =
      let o = remnant.left v l e in
      let t = onward k (S.target o.rule) (fits o.rule o.remains.is_rule).1 o.remains.target_remains in
      record { to = t.to; walk = o.rule ∷ t.walk; size = ap suc t.size; walks = (o.remains.is_rule, o.leaves, t.walks) }

  -- A REMNANT HOLDS A LOOP: a walk of n rules visits a transition twice
  pub remnant_loop : (v : ℕ) → v < n → get_or alive v 0 ≡ 1 → SomeLoop S
  remnant_loop v l e =
      let t = onward n v l e in
      ⊎_elim
      (λ d. absurd (omega (arith, t.size, path_short S n fits v t.to t.walk l t.walks d)))
      (λ s. record { at = s.at; loop = s.loop; is_loop = s.is_loop })
      (path_or_splits S v t.to t.walk t.walks)

-- ------------------------------------------------------------------------------------------------------------------------ rules of offset 0

-- the rules of T are the rules of offset 0 of S
module _ (S T : Shape) (f : ℕ → ℕ) (picks : Picks (λ r. S.offset r ≡ 0) S T f) (n : ℕ) (fits : Fits T n) (few : n ≤ 256) (alive : List ℕ) (remnant : Remnant T n alive) where
  -- A REMNANT: SOME LOOP HAS OFFSET SUM 0
  pub remnant_zero : (v : ℕ) → v < n → get_or alive v 0 ≡ 1 → (u : ℕ) × (rs : List ℕ) × Loop S u rs × (offsets S rs ≡ 0)
  remnant_zero v l e =
      let t = remnant_loop T n fits few alive remnant v l e in
      let k = named_loop (λ r. S.offset r ≡ 0) S T f picks t.at t.loop t.is_loop in
      (t.at, map f t.loop, k.is_loop, all_zero S (map f t.loop) k.kind)

  -- SOME LOOP HAS OFFSET SUM 0: A REMNANT
  pub zero_remnant : (u : ℕ) (rs : List ℕ) → Loop S u rs → offsets S rs ≡ 0 → (v : ℕ) × (v < n) × (get_or alive v 0 ≡ 1)
  zero_remnant u rs l z =
      ⊎_elim
      (λ none. absurd (picked_none (λ r. S.offset r ≡ 0) S T f picks
      (λ w js k. none w (loop_start T n fits w js k) (loop_remnant T n fits few alive remnant w js k)) u rs (record { is_loop = l; kind = zero_all S rs z })))
      (λ s. (s.at, s.at_below, s.holds))
      (none_or_first (λ v. get_or alive v 0 ≡ 1) (λ v. ℕ_discrete _ _) n)
