-- Walks: joined, taken apart, and shortened to paths.
--
--   walk_append, walk_split, walk_last   walks joined and taken apart
--   Meets, meets            a walk comes to v, or does not visit it
--   Splits, path_or_splits  a walk visits no transition twice, or has a loop in it that can be left out
--   path_short              a path has fewer rules than there are transitions
--   LoopAbove S D P Q       == a loop above P/Q
--   shorten                 a walk has a loop above P/Q in it, or there is a path that is as heavy
use Rattle.std.specs.Prelude.{◌≡◌, refl, ◌≢◌, ◌⊎◌, List, [], ◌∷◌, ◌++◌, ℕ, zero, suc, ◌+◌, ◌*◌, ◌≤◌, ◌<◌, length}
use Rattle.std.proofs.Common.{sym, ap, subst, inl, inr, ⊎_elim, arith, length-append}
use Rattle.std.proofs.Math.Logic.{⊎_map, by_cases}
use Rattle.std.proofs.Math.Decide.{ℕ_discrete, dec_lt}
use Rattle.model.specs.Shape.{Shape, Fits}
use Rattle.model.specs.Sums.{delays, offsets}
use Rattle.model.specs.Distinct.{NotIn, Distinct}
use Rattle.model.specs.Walk.{Walk, sources, visits}
use Rattle.model.specs.Loop.{Loop}
use Rattle.model.specs.Period.{NotAbove, Above}
use Rattle.theory.specs.Distinct.{AllBelow, distinct_front, pigeonhole}
use Rattle.theory.specs.Sums.{delays_append, offsets_append}

module _ (S : Shape) where
  -- two walks joined
  pub walk_append : (u v w : ℕ) (rs ss : List ℕ) → Walk S u v rs → Walk S v w ss → Walk S u w (rs ++ ss)
  walk_append u v w [] ss e h = rw e h
  walk_append u v w (r ∷ rs) ss a h = (a.0, a.1, walk_append (S.target r) v w rs ss a.2 h)

  -- a walk comes apart before each of its rules
  pub walk_split : (u w : ℕ) (rs : List ℕ) (s : ℕ) (ss : List ℕ) → Walk S u w (rs ++ (s ∷ ss)) → Walk S u (S.source s) rs × Walk S (S.source s) w (s ∷ ss)
  walk_split u w [] s ss h = (sym h.1, (h.0, refl, h.2))
  walk_split u w (r ∷ rs) s ss h = let t = walk_split (S.target r) w rs s ss h.2 in ((h.0, h.1, t.0), t.1)

  -- a walk that is not empty, with its last rule apart
  pub record Last (u w : ℕ) (rs : List ℕ) : Type 0 where
    pub front : List ℕ
    pub rule : ℕ
    pub whole : rs ≡ front ++ (rule ∷ [])
    pub to : Walk S u (S.source rule) front
    pub is_rule : rule < S.rules
    pub ends : S.target rule ≡ w

  pub walk_last : (u w r : ℕ) (rs : List ℕ) → Walk S u w (r ∷ rs) → Last u w (r ∷ rs)
  walk_last u w r [] h = record { front = []; rule = r; whole = refl; to = sym h.1; is_rule = h.0; ends = h.2 }
  walk_last u w r (q ∷ rs) h =
      let l = walk_last (S.target r) w q rs h.2 in
      record { front = r ∷ l.front; rule = l.rule; whole = ap (λ x. r ∷ x) l.whole; to = (h.0, h.1, l.to); is_rule = l.is_rule; ends = l.ends }

  -- the front of a path has different sources
  visits_append : (w : ℕ) (rs ss : List ℕ) → visits S w (rs ++ ss) ≡ sources S rs ++ visits S w ss
  visits_append w [] ss = refl
  visits_append w (r ∷ rs) ss = ap (λ l. S.source r ∷ l) (visits_append w rs ss)

  pub front_simple : (w : ℕ) (rs ss : List ℕ) → Distinct (visits S w (rs ++ ss)) → Distinct (sources S rs)
  front_simple w rs ss d = distinct_front (sources S rs) (visits S w ss) (subst Distinct (visits_append w rs ss) d)

  -- a walk from u to w that comes to v, first after `front`
  pub record Meets (v u w : ℕ) (rs : List ℕ) : Type 0 where
    pub front : List ℕ
    pub back : List ℕ
    pub whole : rs ≡ front ++ back
    pub to : Walk S u v front
    pub on : Walk S v w back
    pub first : NotIn v (sources S front)

  meets_step : (v u w r : ℕ) (rs : List ℕ) → Walk S u w (r ∷ rs) → S.source r ≢ v → Meets v (S.target r) w rs → Meets v u w (r ∷ rs)
  meets_step v u w r rs h d m =
      record { front = r ∷ m.front; back = m.back; whole = ap (λ l. r ∷ l) m.whole; to = (h.0, h.1, m.to); on = m.on; first = (d, m.first) }

  -- a walk visits v or does not
  pub meets : (v u w : ℕ) (rs : List ℕ) → Walk S u w rs → NotIn v (visits S w rs) ⊎ Meets v u w rs
  meets v u w [] h =
      by_cases (ℕ_discrete w v)
      (λ e. inr (record { front = []; back = []; whole = refl; to = rw e at h; on = sym e; first = tt }))
      (λ d. inl (d, tt))
  meets v u w (r ∷ rs) h =
      by_cases (ℕ_discrete (S.source r) v)
      (λ e. inr (record { front = []; back = r ∷ rs; whole = refl; to = cc h.1; on = (h.0, e, h.2); first = tt }))
      (λ d. ⊎_map (λ f. (d, f)) (meets_step v u w r rs h d) (meets v (S.target r) w rs h.2))

  -- a walk with a loop in it
  pub record Splits (u w : ℕ) (rs : List ℕ) : Type 0 where
    pub front : List ℕ
    pub loop : List ℕ
    pub back : List ℕ
    pub at : ℕ
    pub whole : rs ≡ front ++ (loop ++ back)
    pub is_loop : Loop S at loop
    pub rest : Walk S u w (front ++ back)

  splits_step : (u w r : ℕ) (rs : List ℕ) → Walk S u w (r ∷ rs) → Splits (S.target r) w rs → Splits u w (r ∷ rs)
  splits_step u w r rs h s =
      record {
        front = r ∷ s.front;
        loop = s.loop;
        back = s.back;
        at = s.at;
        whole = ap (λ l. r ∷ l) s.whole;
        is_loop = s.is_loop;
        rest = (h.0, h.1, s.rest);
      }

  -- what the whole sums to, and how long it is
  module _ (u w : ℕ) (rs : List ℕ) (s : Splits u w rs) where
    pub splits_delays : (D : ℕ → ℕ) → delays D rs ≡ delays D (s.front ++ s.back) + delays D s.loop
    splits_delays D =
        omega (arith, ap (delays D) s.whole, delays_append D s.front (s.loop ++ s.back), delays_append D s.loop s.back, delays_append D s.front s.back)

    pub splits_offsets : offsets S rs ≡ offsets S (s.front ++ s.back) + offsets S s.loop
    splits_offsets =
        omega (arith, ap (offsets S) s.whole, offsets_append S s.front (s.loop ++ s.back), offsets_append S s.loop s.back, offsets_append S s.front s.back)

    pub splits_shorter : length (s.front ++ s.back) < length rs
    splits_shorter =
        omega (arith, s.is_loop.some_rule, simp length-append at (ap length s.whole), length-append s.front s.back)

  -- a rule whose source is met again on a path closes a loop
  pub splits_here : (u w r : ℕ) (rs : List ℕ) → Walk S u w (r ∷ rs) → Distinct (visits S w rs) → Meets (S.source r) (S.target r) w rs → Splits u w (r ∷ rs)
  splits_here u w r rs h d m =
      record {
        front = [];
        loop = r ∷ m.front;
        back = m.back;
        at = S.source r;
        whole = ap (λ l. r ∷ l) m.whole;
        is_loop = record { some_rule = omega arith; closed = (h.0, refl, m.to); simple = (m.first, front_simple w m.front m.back (rw m.whole at d)) };
        rest = rw (← h.1) m.on;
      }

  -- a walk is a path, visiting no transition twice, or has a loop in it
  pub path_or_splits : (u w : ℕ) (rs : List ℕ) → Walk S u w rs → Distinct (visits S w rs) ⊎ Splits u w rs
  path_or_splits u w [] h = inl (tt, tt)
  path_or_splits u w (r ∷ rs) h =
      ⊎_elim
      (λ d. ⊎_map (λ f. (f, d)) (splits_here u w r rs h d) (meets (S.source r) (S.target r) w rs h.2))
      (λ s. inr (splits_step u w r rs h s))
      (path_or_splits (S.target r) w rs h.2)

  -- in a graph of n transitions a path has less than n rules
  visits_below : (n : ℕ) → Fits S n → (u w : ℕ) (rs : List ℕ) → u < n → Walk S u w rs → AllBelow n (visits S w rs)
  visits_below n f u w [] b h = (rw h at b, tt)
  visits_below n f u w (r ∷ rs) b h = ((f r h.0).0, visits_below n f (S.target r) w rs (f r h.0).1 h.2)

  length_visits : (w : ℕ) (rs : List ℕ) → length (visits S w rs) ≡ suc (length rs)
  length_visits w [] = refl
  length_visits w (r ∷ rs) = ap suc (length_visits w rs)

  pub path_short : (n : ℕ) → Fits S n → (u w : ℕ) (rs : List ℕ) → u < n → Walk S u w rs → Distinct (visits S w rs) → length rs < n
  path_short n f u w rs b h d = omega (arith, length_visits w rs, pigeonhole n (visits S w rs) d (visits_below n f u w rs b h))

-- a loop above P/Q
pub record LoopAbove (S : Shape) (D : ℕ → ℕ) (P Q : ℕ) : Type 0 where
  pub at : ℕ
  pub loop : List ℕ
  pub is_loop : Loop S at loop
  pub above : Above S D P Q loop

module _ (S : Shape) (D : ℕ → ℕ) (P Q : ℕ) where
  -- a path from u to w whose weight is at least that of rs
  pub record Shortened (u w : ℕ) (rs : List ℕ) : Type 0 where
    pub path : List ℕ
    pub walks : Walk S u w path
    pub distinct : Distinct (visits S w path)
    pub heavy : Q * delays D rs + P * offsets S path ≤ Q * delays D path + P * offsets S rs

  -- leaving out a loop that is not above P/Q loses no weight
  keep_heavy : (u w : ℕ) (rs : List ℕ) (s : Splits S u w rs) → NotAbove S D P Q s.loop → Shortened u w (s.front ++ s.back) → Shortened u w rs
  keep_heavy u w rs s l t =
      record {
        path = t.path;
        walks = t.walks;
        distinct = t.distinct;
        heavy = omega (arith, ap (λ x. Q * x) (splits_delays S u w rs s D), ap (λ x. P * x) (splits_offsets S u w rs s));
      }

  -- the loop of a split is above P/Q, or what is said of the rest can be said of the whole
  cut : (u w : ℕ) (rs : List ℕ) (s : Splits S u w rs) → LoopAbove S D P Q ⊎ Shortened u w (s.front ++ s.back) → LoopAbove S D P Q ⊎ Shortened u w rs
  cut u w rs s x =
      by_cases (dec_lt (P * offsets S s.loop) (Q * delays D s.loop))
      (λ o. inl (record { at = s.at; loop = s.loop; is_loop = s.is_loop; above = o }))
      (λ n. ⊎_map (λ o. o) (keep_heavy u w rs s (omega arith)) x)

  -- A walk has a loop above P/Q in it, or can be shortened to a path that is as heavy. (k: the depth of the recursion)
  pub shorten : (k u w : ℕ) (rs : List ℕ) → length rs < k → Walk S u w rs → LoopAbove S D P Q ⊎ Shortened u w rs
  shorten zero u w rs b h = absurd (omega arith)
  shorten (suc k) u w rs b h =
      ⊎_elim
      (λ d. inr (record { path = rs; walks = h; distinct = d; heavy = omega arith }))
      (λ s. cut u w rs s (shorten k u w (s.front ++ s.back) (omega (arith, splits_shorter S u w rs s)) s.rest))
      (path_or_splits S u w rs h)
