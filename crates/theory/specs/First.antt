-- Loops all of whose rules are of one kind: none, or a first one, read from the lowest transition on any of them, of fewest rules, then first in the
-- order of rule numbers. The kinds that matter: rules that are tight at a schedule, rules of offset 0, all rules.
--
--   Route S A v k x rs   == rs is a walk of k rules of the kind A from x to v
--   FirstRoute           == the first of them in the order of rule numbers
--   shortest_loop        a shortest route from v to v is a loop
--   KindLoop S A u rs    == rs, read from u, is a loop of rules of the kind A
--   FirstLoop S A u rs   == the first of them
--   none_or_first_loop   there is none, or a first
--   route_loop           the first shortest route from the lowest transition that has one is the first loop
use Rattle.std.specs.Prelude.{◌≡◌, refl, ◌⊎◌, List, [], ◌∷◌, ◌++◌, ℕ, zero, suc, ◌≤◌, ◌<◌, length}
use Rattle.std.proofs.Common.{ap, ◌∙◌, subst, inl, inr, ⊎_elim, arith, lt_of_not-le}
use Rattle.std.proofs.Math.Logic.{by_cases}
use Rattle.std.proofs.Math.Nat.{suc_inj}
use Rattle.std.proofs.Math.Decide.{ℕ_discrete, dec_lt, dec_le}
use Rattle.model.specs.Shape.{Shape, Fits}
use Rattle.model.specs.Distinct.{Distinct}
use Rattle.model.specs.Walk.{Walk, sources, visits}
use Rattle.model.specs.Loop.{Loop}
use Rattle.model.specs.Reported.{NotAfter}
use Rattle.theory.specs.Search.{First, none_or_first}
use Rattle.theory.specs.Distinct.{distinct_front, distinct_last}
use Rattle.theory.specs.Sums.{All, all_append, all_join}
use Rattle.theory.specs.Walk.{Splits, splits_shorter, path_or_splits}
use Rattle.theory.specs.Loop.{loop_short, loop_start}

pub order_unique : (rs qs : List ℕ) → NotAfter rs qs → NotAfter qs rs → rs ≡ qs
order_unique [] [] h k = refl
order_unique [] (q ∷ qs) h k = absurd k
order_unique (r ∷ rs) [] h k = absurd h
order_unique (r ∷ rs) (q ∷ qs) (inl a) (inl b) = absurd (omega arith)
order_unique (r ∷ rs) (q ∷ qs) (inl a) (inr b) = absurd (omega arith)
order_unique (r ∷ rs) (q ∷ qs) (inr a) (inl b) = absurd (omega arith)
order_unique (r ∷ rs) (q ∷ qs) (inr a) (inr b) = cc (a.0, order_unique rs qs a.1 b.1)

module _ (S : Shape) (A : ℕ → Type 0) (dec : (r : ℕ) → Dec (A r)) (v : ℕ) where
  -- rs is a route of k rules from x to v
  abbrev pub Route : ℕ → ℕ → List ℕ → Type 0
  Route k x rs = (length rs ≡ k) × Walk S x v rs × All A rs

  -- the first of them
  pub record FirstRoute (k x : ℕ) : Type 0 where
    pub route : List ℕ
    pub is_route : Route k x route
    pub first : (qs : List ℕ) → Route k x qs → NotAfter route qs

  abbrev pub NoRoute : ℕ → ℕ → Type 0
  NoRoute k x = (qs : List ℕ) → ¬ (Route k x qs)

  -- a route may begin with rule r
  abbrev pub Begins : ℕ → ℕ → ℕ → Type 0
  Begins k x r = (S.source r ≡ x) × A r × FirstRoute k (S.target r)

  module _ (k x : ℕ) (ih : (y : ℕ) → NoRoute k y ⊎ FirstRoute k y) where
    begins_dec : (r : ℕ) → Dec (Begins k x r)
    begins_dec r =
        by_cases (ℕ_discrete (S.source r) x)
        (λ e. by_cases (dec r) (λ a. ⊎_elim (λ none. no (λ b. none b.2.route b.2.is_route)) (λ f. yes (e, a, f)) (ih (S.target r))) (λ n. no (λ b. n b.1)))
        (λ n. no (λ b. n b.0))

    begins : (q : ℕ) (qs : List ℕ) → Route (suc k) x (q ∷ qs) → Begins k x q
    begins q qs h = ⊎_elim (λ none. absurd (none qs (suc_inj h.0, h.1.2, h.2.1))) (λ f. (h.1.1, h.2.0, f)) (ih (S.target q))

    none_begins : ((r : ℕ) → r < S.rules → ¬ (Begins k x r)) → NoRoute (suc k) x
    none_begins none [] h = omega arith
    none_begins none (q ∷ qs) h = none q h.1.0 (begins q qs h)

    first_begins : First (Begins k x) S.rules → FirstRoute (suc k) x
    first_begins f =
        record {
          route = r ∷ t.route;
          is_route = (ap suc t.is_route.0, (f.at_below, f.holds.0, t.is_route.1), (f.holds.1, t.is_route.2));
          first = first;
        }
      where
        r : ℕ
        r = f.at

        t : FirstRoute k (S.target r)
        t = f.holds.2

        first : (qs : List ℕ) → Route (suc k) x qs → NotAfter (r ∷ t.route) qs
        first [] h = omega arith
        first (q ∷ qs) h =
            by_cases (dec_lt r q)
            (λ l. inl l)
            (λ l. by_cases (ℕ_discrete r q)
            (λ e. inr (e, t.first qs (suc_inj h.0, rw e h.1.2, h.2.1)))
            (λ d. absurd (f.before q (omega arith) (begins q qs h))))

  -- there is no route, or there is a first
  pub no_or_first : (k x : ℕ) → NoRoute k x ⊎ FirstRoute k x
  no_or_first zero x =
      by_cases (ℕ_discrete x v)
      (λ e. inr (record { route = []; is_route = (refl, e, tt); first = λ qs h. tt }))
      (λ d. inl (away d))
    where
      away : ¬ (x ≡ v) → NoRoute 0 x
      away d [] h = d h.1
      away d (q ∷ qs) h = omega arith
  no_or_first (suc k) x =
      let ih = no_or_first k in
      ⊎_elim (λ none. inl (none_begins k x ih none)) (λ f. inr (first_begins k x ih f)) (none_or_first (Begins k x) (begins_dec k x ih) S.rules)

  -- where there is a route, there is a first
  pub first_route : (k x : ℕ) (qs : List ℕ) → Route k x qs → FirstRoute k x
  first_route k x qs h = ⊎_elim (λ none. absurd (none qs h)) (λ f. f) (no_or_first k x)

  -- A SHORTEST ROUTE FROM v TO v IS A LOOP
  pub shortest_loop : (k : ℕ) (rs : List ℕ) → Route (suc k) v rs → ((j : ℕ) → j < k → NoRoute (suc j) v) → Loop S v rs
  shortest_loop k [] h none = absurd (omega arith)
  shortest_loop k (r ∷ rs) h none = record { some_rule = omega arith; closed = h.1; simple = ⊎_elim simple (λ s. absurd (shorter s)) (path_or_splits S (S.target r) v rs h.1.2) }
    where
      simple : Distinct (visits S v rs) → Distinct (sources S (r ∷ rs))
      simple d = rw h.1.1 (distinct_last v (sources S rs) d, distinct_front (sources S rs) (v ∷ []) d)

      -- leaving out a loop leaves the kind of the rest
      rest : (s : Splits S (S.target r) v rs) → All A (s.front ++ s.back)
      rest s =
          let parts = all_append A s.front (s.loop ++ s.back) (subst (All A) s.whole h.2.1) in
          all_join A s.front s.back parts.0 (all_append A s.loop s.back parts.1).1

      shorter : Splits S (S.target r) v rs → ⊥
      shorter s =
          none (length (s.front ++ s.back)) (omega (arith, splits_shorter S (S.target r) v rs s)) (r ∷ (s.front ++ s.back))
          (refl, (h.1.0, h.1.1, s.rest), (h.2.0, rest s))

module _ (S : Shape) (A : ℕ → Type 0) where
  -- a loop of the kind
  pub record KindLoop (u : ℕ) (rs : List ℕ) : Type 0 where
    pub is_loop : Loop S u rs
    pub kind : All A rs

  -- the first of them
  pub record FirstLoop (u : ℕ) (rs : List ℕ) : Type 0 where
    pub is_one : KindLoop u rs
    pub lowest : (w : ℕ) (qs : List ℕ) → KindLoop w qs → u ≤ w
    pub fewest : (qs : List ℕ) → KindLoop u qs → length rs ≤ length qs
    pub first : (qs : List ℕ) → KindLoop u qs → length qs ≡ length rs → NotAfter rs qs

module _ (S : Shape) (A : ℕ → Type 0) (dec : (r : ℕ) → Dec (A r)) (n : ℕ) (fits : Fits S n) where
  -- k + 1 is the length of a shortest route from v to v
  abbrev Shortest : ℕ → Type 0
  Shortest v = First (λ k. FirstRoute S A dec v (suc k) v) n

  dec_route : (v k : ℕ) → Dec (FirstRoute S A dec v (suc k) v)
  dec_route v k = ⊎_elim (λ none. no (λ f. none f.route f.is_route)) yes (no_or_first S A dec v (suc k) v)

  dec_shortest : (v : ℕ) → Dec (Shortest v)
  dec_shortest v = ⊎_elim (λ none. no (λ f. none f.at f.at_below f.holds)) yes (none_or_first _ (dec_route v) n)

  -- a loop of the kind is a route, so there is a first route of its length, and a shortest
  loop_route : (v : ℕ) (qs : List ℕ) → KindLoop S A v qs → FirstRoute S A dec v (length qs) v
  loop_route v qs l = first_route S A dec v (length qs) v qs (refl, l.is_loop.closed, l.kind)

  loop_shortest : (v : ℕ) (qs : List ℕ) → KindLoop S A v qs → Shortest v
  loop_shortest v [] l = absurd (omega (arith, l.is_loop.some_rule))
  loop_shortest v (q ∷ qs) l =
      ⊎_elim
      (λ none. absurd (none (length qs) (omega (arith, loop_short S n fits v (q ∷ qs) l.is_loop)) (loop_route v (q ∷ qs) l)))
      (λ f. f)
      (none_or_first _ (dec_route v) n)

  -- THE FIRST SHORTEST ROUTE FROM u TO u, WHERE NO LOWER TRANSITION HAS A LOOP, IS THE FIRST LOOP. A shortest route visits no transition twice: a loop
  -- in it could be left out.
  pub route_loop : (u k : ℕ) (rs : List ℕ) → Route S A dec u (suc k) u rs → ((j : ℕ) → j < k → NoRoute S A dec u (suc j) u)
      → ((qs : List ℕ) → Route S A dec u (suc k) u qs → NotAfter rs qs) → ((w : ℕ) (qs : List ℕ) → w < u → ¬ (KindLoop S A w qs)) → FirstLoop S A u rs
  route_loop u k rs is none before lower =
      record {
        is_one = record { is_loop = shortest_loop S A dec u k rs is none; kind = is.2 };
        lowest = λ w qs l. by_cases (dec_le u w) (λ h. h) (λ h. absurd (lower w qs (lt_of_not-le h) l));
        fewest = fewest;
        first = λ qs l e. before qs (e ∙ is.0, l.is_loop.closed, l.kind);
      }
    where
      fewest : (qs : List ℕ) → KindLoop S A u qs → length rs ≤ length qs
      fewest [] l = absurd (omega (arith, l.is_loop.some_rule))
      fewest (q ∷ qs) l =
          by_cases (dec_le k (length qs))
          (λ h. omega (arith, is.0))
          (λ h. absurd (none (length qs) (lt_of_not-le h) (q ∷ qs) (refl, l.is_loop.closed, l.kind)))

  shortest_first : (f : First Shortest n) → FirstLoop S A f.at f.holds.holds.route
  shortest_first f =
      let s = f.holds.holds in
      route_loop f.at f.holds.at s.route s.is_route (λ j l qs r. f.holds.before j l (first_route S A dec f.at (suc j) f.at qs r))
      s.first (λ w qs l k. f.before w l (loop_shortest w qs k))

  -- NONE, OR A FIRST
  pub none_or_first_loop : ((v : ℕ) (qs : List ℕ) → ¬ (KindLoop S A v qs)) ⊎ ((u : ℕ) × (rs : List ℕ) × FirstLoop S A u rs)
  none_or_first_loop =
      ⊎_elim
      (λ none. inl (λ v qs l. none v (loop_start S n fits v qs l.is_loop) (loop_shortest v qs l)))
      (λ f. inr (f.at, f.holds.holds.route, shortest_first f))
      (none_or_first Shortest dec_shortest n)
