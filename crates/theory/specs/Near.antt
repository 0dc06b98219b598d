-- The first of the shortest walks to a transition, walks that close, and rules picked out of a list.
--
--   FirstWalk S v k x rs   == rs is the first walk of k rules from x to v, in the order of rule numbers
--   walk_first             a rule, lowest of those that such a walk may begin with, and then the first walk from its target
--   Any r                  == every rule is of this kind
--   closed_first           the first shortest closed walk from the lowest transition on a loop is the first loop
--   Closed S u             == a closed walk from u, not empty
--   closed_leaves, closed_enters   a rule of it leaves u, and one enters u; their other ends have closed walks too
--   Picks A S T f          == the rules of T are the rules of S of the kind A, in their order: rule j of T is rule f j of S
--   picked_none, picked_first   T has a first loop just where S has a first loop of the kind, and it is the same loop
use Rattle.std.specs.Prelude.{◌≡◌, refl, List, [], ◌∷◌, ◌++◌, map, ℕ, suc, ◌≤◌, ◌<◌, length}
use Rattle.std.proofs.Common.{sym, ap, ◌∙◌, subst, inl, inr, arith, length-append}
use Rattle.std.proofs.Math.Logic.{by_cases}
use Rattle.std.proofs.Math.Nat.{suc_inj}
use Rattle.std.proofs.Math.Decide.{dec_lt}
use Rattle.std.proofs.lemmas.List.{length-map}
use Rattle.model.specs.Shape.{Shape, Fits}
use Rattle.model.specs.Distinct.{Distinct}
use Rattle.model.specs.Walk.{Walk, sources}
use Rattle.model.specs.Loop.{Loop}
use Rattle.model.specs.Reported.{NotAfter}
use Rattle.theory.specs.Sums.{All}
use Rattle.theory.specs.Walk.{walk_append, walk_last}
use Rattle.theory.specs.Loop.{loop_short}
use Rattle.theory.specs.First.{shortest_loop, KindLoop, FirstLoop, route_loop}

-- rs is the first walk of k rules from x to v
pub record FirstWalk (S : Shape) (v k x : ℕ) (rs : List ℕ) : Type 0 where
  pub size : length rs ≡ k
  pub walks : Walk S x v rs
  pub first : (qs : List ℕ) → length qs ≡ k → Walk S x v qs → NotAfter rs qs

-- one rule more, where no lower rule begins such a walk
pub walk_first : (S : Shape) (v k x r : ℕ) (rs : List ℕ) → r < S.rules → S.source r ≡ x → FirstWalk S v k (S.target r) rs
    → ((q : ℕ) (qs : List ℕ) → length qs ≡ k → Walk S x v (q ∷ qs) → r ≤ q) → FirstWalk S v (suc k) x (r ∷ rs)
walk_first S v k x r rs b e w lowest = record { size = ap suc w.size; walks = (b, e, w.walks); first = first }
  where
    first : (qs : List ℕ) → length qs ≡ suc k → Walk S x v qs → NotAfter (r ∷ rs) qs
    first [] l h = absurd (omega arith)
    first (q ∷ qs) l h =
        by_cases (dec_lt r q)
        (λ below. inl below)
        (λ not_below. let same : r ≡ q = omega (arith, lowest q qs (suc_inj l) h) in inr (same, w.first qs (suc_inj l) (rw same h.2)))

-- every rule is of this kind
abbrev pub Any : ℕ → Type 0
Any r = Unit {0}

pub all_any : (rs : List ℕ) → All Any rs
all_any [] = tt
all_any (r ∷ rs) = (tt, all_any rs)

module _ (S : Shape) (n : ℕ) (fits : Fits S n) (u k : ℕ) (rs : List ℕ) (shortest : (qs : List ℕ) → 0 < length qs → Walk S u u qs → suc k ≤ length qs) where
  -- a shortest closed walk is a loop, so it is no longer than one
  pub closed_short : length rs ≡ suc k → Walk S u u rs → suc k ≤ n
  closed_short size walks =
      omega (arith, loop_short S n fits u rs (shortest_loop S Any (λ r. yes tt) u k rs (size, walks, all_any rs) (λ j l qs h. omega (arith, h.0, shortest qs (omega (arith, h.0)) h.1))))

  -- THE FIRST SHORTEST CLOSED WALK FROM u, WHERE NO LOWER TRANSITION HAS A LOOP, IS THE FIRST LOOP
  pub closed_first : FirstWalk S u (suc k) u rs → ((w : ℕ) (qs : List ℕ) → w < u → ¬ (Loop S w qs)) → FirstLoop S Any u rs
  closed_first f lower =
      route_loop S Any (λ r. yes tt) n fits u k rs (f.size, f.walks, all_any rs)
      (λ j l qs h. omega (arith, h.0, shortest qs (omega (arith, h.0)) h.1))
      (λ qs h. f.first qs h.0 h.1)
      (λ w qs l h. lower w qs l h.is_loop)

-- a closed walk from u
pub record Closed (S : Shape) (u : ℕ) : Type 0 where
  pub walk : List ℕ
  pub some_rule : 0 < length walk
  pub closed : Walk S u u walk

-- a rule of S, and a closed walk from its other end
pub record Meeting (S : Shape) (at other : ℕ → ℕ) (u : ℕ) : Type 0 where
  pub rule : ℕ
  pub is_rule : rule < S.rules
  pub meets : at rule ≡ u
  pub on : Closed S (other rule)

-- A TRANSITION ON A CLOSED WALK IS LEFT BY A RULE TO A TRANSITION ON A CLOSED WALK, AND ENTERED BY ONE FROM SUCH A TRANSITION
pub closed_leaves : (S : Shape) (u : ℕ) → Closed S u → Meeting S (S.source) (S.target) u
closed_leaves S u c = from c.walk c.some_rule c.closed
  where
    from : (rs : List ℕ) → 0 < length rs → Walk S u u rs → Meeting S (S.source) (S.target) u
    from [] l h = absurd (omega arith)
    from (r ∷ rs) l h =
        record {
          rule = r;
          is_rule = h.0;
          meets = h.1;
          on = record {
            walk = rs ++ (r ∷ []);
            some_rule = omega (arith, length-append rs (r ∷ []));
            closed = walk_append S (S.target r) u (S.target r) rs (r ∷ []) h.2 (h.0, h.1, refl);
          };
        }

pub closed_enters : (S : Shape) (u : ℕ) → Closed S u → Meeting S (S.target) (S.source) u
closed_enters S u c = from c.walk c.some_rule c.closed
  where
    from : (rs : List ℕ) → 0 < length rs → Walk S u u rs → Meeting S (S.target) (S.source) u
    from [] l h = absurd (omega arith)
    from (r ∷ rs) l h =
        let t = walk_last S u u r rs h in
        record {
          rule = t.rule;
          is_rule = t.is_rule;
          meets = t.ends;
          on = record { walk = t.rule ∷ t.front; some_rule = omega arith; closed = (t.is_rule, refl, rw t.ends t.to) };
        }

-- the rules of T are the rules of S of the kind A, in their order
pub record Picks (A : ℕ → Type 0) (S T : Shape) (f : ℕ → ℕ) : Type 0 where
  pub is_rule : (j : ℕ) → j < T.rules → f j < S.rules
  pub kind : (j : ℕ) → j < T.rules → A (f j)
  pub source_is : (j : ℕ) → j < T.rules → T.source j ≡ S.source (f j)
  pub target_is : (j : ℕ) → j < T.rules → T.target j ≡ S.target (f j)
  pub ascending : (i j : ℕ) → i < j → j < T.rules → f i < f j
  pub all : (r : ℕ) → r < S.rules → A r → (j : ℕ) × (j < T.rules) × (f j ≡ r)

module _ (A : ℕ → Type 0) (S T : Shape) (f : ℕ → ℕ) (p : Picks A S T f) where
  -- a walk of picked rules, under their own numbers
  named_walk : (u w : ℕ) (js : List ℕ) → Walk T u w js → Walk S u w (map f js)
  named_walk u w [] h = h
  named_walk u w (j ∷ js) h =
      (p.is_rule j h.0, sym (p.source_is j h.0) ∙ h.1, subst (λ x. Walk S x w (map f js)) (p.target_is j h.0) (named_walk (T.target j) w js h.2))

  named_kind : (u w : ℕ) (js : List ℕ) → Walk T u w js → All A (map f js)
  named_kind u w [] h = tt
  named_kind u w (j ∷ js) h = (p.kind j h.0, named_kind (T.target j) w js h.2)

  named_sources : (u w : ℕ) (js : List ℕ) → Walk T u w js → sources S (map f js) ≡ sources T js
  named_sources u w [] h = refl
  named_sources u w (j ∷ js) h = let a = p.source_is j h.0 in let b = named_sources (T.target j) w js h.2 in cc (a, b)

  named_order : (u w : ℕ) (js ks : List ℕ) → Walk T u w ks → NotAfter js ks → NotAfter (map f js) (map f ks)
  named_order u w [] ks h a = tt
  named_order u w (j ∷ js) [] h a = absurd a
  named_order u w (j ∷ js) (k ∷ ks) h (inl a) = inl (p.ascending j k a h.0)
  named_order u w (j ∷ js) (k ∷ ks) h (inr a) = inr (ap f a.0, named_order (T.target k) w js ks h.2 a.1)

  pub named_loop : (u : ℕ) (js : List ℕ) → Loop T u js → KindLoop S A u (map f js)
  named_loop u js l =
      record {
        is_loop = record {
          some_rule = omega (arith, l.some_rule, length-map js f);
          closed = named_walk u u js l.closed;
          simple = subst Distinct (sym (named_sources u u js l.closed)) l.simple;
        };
        kind = named_kind u u js l.closed;
      }

  -- and back: a walk of the kind, by the places of its rules among those picked
  pub record Places (u w : ℕ) (rs : List ℕ) : Type 0 where
    pub places : List ℕ
    pub names : map f places ≡ rs
    pub walks : Walk T u w places

  places_of : (u w : ℕ) (rs : List ℕ) → Walk S u w rs → All A rs → Places u w rs
  places_of u w [] h a = record { places = []; names = refl; walks = h }
  places_of u w (r ∷ rs) h a =
      let j = p.all r h.0 a.0 in
      let t = places_of (S.target r) w rs h.2 a.1 in
      record {
        places = j.0 ∷ t.places;
        names = cc (j.2, t.names);
        walks = (
          j.1,
          p.source_is j.0 j.1 ∙ ap (S.source) j.2 ∙ h.1,
          subst (λ x. Walk T x w t.places) (sym (p.target_is j.0 j.1 ∙ ap (S.target) j.2)) t.walks,
        );
      }

  pub placed_loop : (u : ℕ) (rs : List ℕ) (l : KindLoop S A u rs) (t : Places u u rs) → KindLoop T Any u t.places
  placed_loop u rs l t =
      record {
        is_loop = record {
          some_rule = omega (arith, l.is_loop.some_rule, ap length t.names, length-map t.places f);
          closed = t.walks;
          simple = subst Distinct (ap (sources S) (sym t.names) ∙ named_sources u u t.places t.walks) l.is_loop.simple;
        };
        kind = all_any t.places;
      }

  pub places_loop : (u : ℕ) (rs : List ℕ) → KindLoop S A u rs → Places u u rs
  places_loop u rs l = places_of u u rs l.is_loop.closed l.kind

  pub picked_none : ((u : ℕ) (js : List ℕ) → ¬ (Loop T u js)) → (u : ℕ) (rs : List ℕ) → ¬ (KindLoop S A u rs)
  picked_none none u rs l = let t = places_loop u rs l in none u t.places (placed_loop u rs l t).is_loop

  -- THE SAME FIRST LOOP
  pub picked_first : (u : ℕ) (js : List ℕ) → FirstLoop T Any u js → FirstLoop S A u (map f js)
  picked_first u js l =
      record {
        is_one = named_loop u js l.is_one.is_loop;
        lowest = λ w qs q. let t = places_loop w qs q in l.lowest w t.places (placed_loop w qs q t);
        fewest = λ qs q. let t = places_loop u qs q in omega (arith, l.fewest t.places (placed_loop u qs q t), length-map js f, length-map t.places f, ap length t.names);
        first = λ qs q e.
            let t = places_loop u qs q in
            subst (NotAfter (map f js)) t.names
            (named_order u u js t.places t.walks (l.first t.places (placed_loop u qs q t) (omega (arith, e, length-map js f, length-map t.places f, ap length t.names))));
      }
