-- The rate of a transition: it is the period of the same rules, steered so that only the loops that reach v are left; and how rates stand to each other.
--
--   reach_here, reach_over    a transition reaches itself, and what a walk leads to something that reaches v reaches v
--   steered S f               == the rules S with the sources f
--   Steers S v f              == f leaves a rule whose target reaches v its source, and has every other rule start at v
--   loop_steered, loop_plain  the loops of the steered rules are the loops that reach v
--   rate_steered, rate_plain  so the rate of v is their period
--   reaches_or_not, steering  whether u reaches v is decided, so there is such an f
--   rate_unique, rates_unique one rate, one range
--   rate_steady               longer delays give no lower rate: what theory/Ends says of ends holds of those of a rate
--   rate_exists, rates_exist  every loop turns and one reaches v: there is a rate, in lowest terms, and a range
--   loop_onward, rate_rises   a rate never falls along rules
--   visited, rate_shared, rates_shared       transitions on one loop share their rate
--   rate_within, period_rate_lem  no rate is above the period, and the transitions of a loop that attains the period have it as their rate
use Rattle.std.specs.Prelude.{◌≡◌, refl, ◌⊎◌, List, [], ◌∷◌, ◌++◌, ℕ, suc, ◌*◌, ◌≤◌, ◌<◌, length}
use Rattle.std.proofs.Common.{sym, ap, ◌∙◌, subst, inl, inr, ⊎_elim, arith, mul-le-mul_left, le_of_mul-le-mul_right}
use Rattle.std.proofs.Math.Logic.{by_cases}
use Rattle.std.proofs.Math.Decide.{dec_lt}
use Rattle.model.specs.Shape.{Shape, Fits}
use Rattle.model.specs.Sums.{offsets}
use Rattle.model.specs.Distinct.{Distinct}
use Rattle.model.specs.Walk.{Walk, sources}
use Rattle.model.specs.Loop.{Loop, SomeLoop, NoLoop, Live}
use Rattle.model.specs.Ratio.{Lowest}
use Rattle.model.specs.Period.{Period}
use Rattle.model.specs.Filling.{Ranges}
use Rattle.model.specs.Ends.{Range}
use Rattle.model.specs.Rate.{Reaches, LoopTo, SomeLoopTo, NoLoopTo, Rate, Rates}
use Rattle.theory.specs.Search.{none_or_first}
use Rattle.theory.specs.Walk.{walk_append, walk_split, path_short, LoopAbove, Shortened, shorten}
use Rattle.theory.specs.First.{FirstRoute, no_or_first, first_route}
use Rattle.theory.specs.Near.{Any, all_any}
use Rattle.theory.specs.Period.{slower, period_unique, period_exists}
use Rattle.theory.specs.Filling.{Proper}
use Rattle.theory.specs.Ends.{Steady, range_unique, range_is, exact_exists}

pub reach_here : (S : Shape) (v : ℕ) → Reaches S v v
reach_here S v = record { way = []; leads = refl }

pub reach_over : (S : Shape) (u w v : ℕ) (rs : List ℕ) → Walk S u w rs → Reaches S w v → Reaches S u v
reach_over S u w v rs h b = record { way = rs ++ b.way; leads = walk_append S u w v rs b.way h b.leads }

-- ---------------------------------------------------------------------------------------------------------------------------------- steered rules

abbrev pub steered : Shape → (ℕ → ℕ) → Shape
steered S f = record { rules = S.rules; source = f; target = S.target; offset = S.offset }

-- nothing then leaves a transition that does not reach v, so no loop visits one
abbrev pub Steers : Shape → ℕ → (ℕ → ℕ) → Type 0
Steers S v f = (r : ℕ) → r < S.rules → (Reaches S (S.target r) v × (f r ≡ S.source r)) ⊎ ((¬ (Reaches S (S.target r) v)) × (f r ≡ v))

module _ (S : Shape) (v : ℕ) (f : ℕ → ℕ) (steers : Steers S v f) where
  kept : (r : ℕ) → r < S.rules → Reaches S (S.target r) v → f r ≡ S.source r
  kept r b h = ⊎_elim (λ k. k.1) (λ k. absurd (k.0 h)) (steers r b)

  -- a walk to where v can be reached from is a walk of the steered rules, from the same transitions; and back
  steered_walk : (u w : ℕ) (rs : List ℕ) → Reaches S w v → Walk S u w rs → Walk (steered S f) u w rs
  steered_walk u w [] b h = h
  steered_walk u w (r ∷ rs) b h = (h.0, kept r h.0 (reach_over S (S.target r) w v rs h.2 b) ∙ h.1, steered_walk (S.target r) w rs b h.2)

  steered_sources : (u w : ℕ) (rs : List ℕ) → Reaches S w v → Walk S u w rs → sources (steered S f) rs ≡ sources S rs
  steered_sources u w [] b h = refl
  steered_sources u w (r ∷ rs) b h =
      let a = kept r h.0 (reach_over S (S.target r) w v rs h.2 b) in
      let t = steered_sources (S.target r) w rs b h.2 in
      cc (a, t)

  plain_walk : (u w : ℕ) (rs : List ℕ) → Reaches S w v → Walk (steered S f) u w rs → Walk S u w rs
  plain_walk u w [] b h = h
  plain_walk u w (r ∷ rs) b h =
      let t = plain_walk (S.target r) w rs b h.2 in
      (h.0, sym (kept r h.0 (reach_over S (S.target r) w v rs t b)) ∙ h.1, t)

  -- a steered rule starts where v can be reached from: over its target, or at v itself
  starts : (u r : ℕ) → r < S.rules → f r ≡ u → Reaches S u v
  starts u r b e =
      ⊎_elim
      (λ k. reach_over S u (S.target r) v (r ∷ []) (b, sym k.1 ∙ e, refl) k.0)
      (λ k. subst (λ x. Reaches S x v) (sym k.1 ∙ e) (reach_here S v))
      (steers r b)

  -- THE LOOPS OF THE STEERED RULES ARE THE LOOPS THAT REACH v
  pub loop_steered : (u : ℕ) (rs : List ℕ) → LoopTo S v u rs → Loop (steered S f) u rs
  loop_steered u rs l =
      record {
        some_rule = l.is_loop.some_rule;
        closed = steered_walk u u rs l.reaches l.is_loop.closed;
        simple = subst Distinct (sym (steered_sources u u rs l.reaches l.is_loop.closed)) l.is_loop.simple;
      }

  pub loop_plain : (u : ℕ) (rs : List ℕ) → Loop (steered S f) u rs → LoopTo S v u rs
  loop_plain u [] l = absurd (omega (arith, l.some_rule))
  loop_plain u (r ∷ rs) l =
      let b = starts u r l.closed.0 l.closed.1 in
      let h = plain_walk u u (r ∷ rs) b l.closed in
      record { is_loop = record { some_rule = l.some_rule; closed = h; simple = subst Distinct (steered_sources u u (r ∷ rs) b h) l.simple }; reaches = b }

  steered_offsets : (rs : List ℕ) → offsets (steered S f) rs ≡ offsets S rs
  steered_offsets [] = refl
  steered_offsets (r ∷ rs) = omega (arith, steered_offsets rs)

  -- THE RATE OF v IS THEIR PERIOD
  pub rate_steered : (D : ℕ → ℕ) (P Q : ℕ) → Rate S D v P Q → Period (steered S f) D P Q
  rate_steered D P Q x =
      record {
        q_pos = x.q_pos;
        at = x.at;
        loop = x.loop;
        is_loop = loop_steered x.at x.loop x.is_loop_to;
        turns = omega (arith, x.turns, steered_offsets x.loop);
        attained = omega (arith, x.attained, ap (λ o. P * o) (steered_offsets x.loop));
        highest = λ u rs l. omega (arith, x.highest u rs (loop_plain u rs l), ap (λ o. P * o) (steered_offsets rs));
      }

  pub rate_plain : (D : ℕ → ℕ) (P Q : ℕ) → Period (steered S f) D P Q → Rate S D v P Q
  rate_plain D P Q x =
      record {
        q_pos = x.q_pos;
        at = x.at;
        loop = x.loop;
        is_loop_to = loop_plain x.at x.loop x.is_loop;
        turns = omega (arith, x.turns, steered_offsets x.loop);
        attained = omega (arith, x.attained, ap (λ o. P * o) (steered_offsets x.loop));
        highest = λ u rs l. omega (arith, x.highest u rs (loop_steered u rs l), ap (λ o. P * o) (steered_offsets rs));
      }

  -- what else is said of all loops
  pub live_steered : Live S → Live (steered S f)
  live_steered live u rs l = omega (arith, live u rs (loop_plain u rs l).is_loop, steered_offsets rs)

  pub none_plain : NoLoop (steered S f) → NoLoopTo S v
  none_plain none u rs l = none u rs (loop_steered u rs l)

  pub some_steered : SomeLoopTo S v → SomeLoop (steered S f)
  some_steered l = record { at = l.at; loop = l.loop; is_loop = loop_steered l.at l.loop l.is_loop_to }

  pub some_plain : SomeLoop (steered S f) → SomeLoopTo S v
  some_plain l = record { at = l.at; loop = l.loop; is_loop_to = loop_plain l.at l.loop l.is_loop }

  pub fits_steered : (n : ℕ) → v < n → Fits S n → Fits (steered S f) n
  fits_steered n b fits r l = (⊎_elim (λ k. omega (arith, k.1, (fits r l).0)) (λ k. omega (arith, k.1)) (steers r l), (fits r l).1)

-- ------------------------------------------------------------------------------------------------------------------------------ there is a way to steer

module _ (S : Shape) (n : ℕ) (fits : Fits S n) (v : ℕ) where
  routed : (u k : ℕ) → Dec (FirstRoute S Any (λ r. yes tt) v k u)
  routed u k = ⊎_elim (λ none. no (λ f. none f.route f.is_route)) yes (no_or_first S Any (λ r. yes tt) v k u)

  -- what can be reached can be reached by a path, which is short
  short : (u : ℕ) → u < n → (rs : List ℕ) → Walk S u v rs → (k : ℕ) × (k < n) × FirstRoute S Any (λ r. yes tt) v k u
  short u b rs h =
      let s : Shortened S (λ r. 0) 0 0 u v rs = ⊎_elim (λ (l : LoopAbove S (λ r. 0) 0 0). absurd (omega (arith, l.above))) (λ t. t) (shorten S (λ r. 0) 0 0 (suc (length rs)) u v rs (omega arith) h) in
      (length s.path, path_short S n fits u v s.path b s.walks s.distinct, first_route S Any (λ r. yes tt) v (length s.path) u s.path (refl, s.walks, all_any s.path))

  pub reaches_or_not : (u : ℕ) → u < n → Dec (Reaches S u v)
  reaches_or_not u b =
      ⊎_elim
      (λ none. no (λ w. let t = short u b w.way w.leads in none t.0 t.1 t.2))
      (λ t. yes (record { way = t.holds.route; leads = t.holds.is_route.1 }))
      (none_or_first _ (routed u) n)

  steer : (r : ℕ) → (x : ℕ) × (r < S.rules → (Reaches S (S.target r) v × (x ≡ S.source r)) ⊎ ((¬ (Reaches S (S.target r) v)) × (x ≡ v)))
  steer r =
      by_cases (dec_lt r S.rules)
      (λ b. by_cases (reaches_or_not (S.target r) (fits r b).1) (λ h. (S.source r, λ _. inl (h, refl))) (λ h. (v, λ _. inr (h, refl))))
      (λ b. (v, λ l. absurd (b l)))

  pub steering : (f : ℕ → ℕ) × Steers S v f
  steering = (λ r. (steer r).0, λ r b. (steer r).1 b)

-- ------------------------------------------------------------------------------------------------------------------------------------ one, and there

module _ (S : Shape) (n : ℕ) (fits : Fits S n) (v : ℕ) where
  abbrev f : ℕ → ℕ
  f = (steering S n fits v).0

  s : Steers S v f
  s = (steering S n fits v).1

  -- ONLY ONE OF EACH
  pub rate_unique : (D : ℕ → ℕ) (P Q P' Q' : ℕ) → Rate S D v P Q → Lowest P Q → Rate S D v P' Q' → Lowest P' Q' → (P ≡ P') × (Q ≡ Q')
  rate_unique D P Q P' Q' a l b m = period_unique (steered S f) D P Q P' Q' (rate_steered S v f s D P Q a) l (rate_steered S v f s D P' Q' b) m

  -- LONGER DELAYS GIVE NO LOWER RATE, so that what is said of ends holds of those of a rate
  pub rate_steady : Steady S (λ D. Rate S D v)
  rate_steady =
      record {
        q_pos = λ D P Q x. x.q_pos;
        rising = λ D E longer P Q P' Q' x y. slower (steered S f) D E longer P Q P' Q' (rate_steered S v f s D P Q x) (rate_steered S v f s E P' Q' y);
      }

  pub rates_unique : (K : Ranges) (a b : Range) → Rates S K v a → Rates S K v b → a ≡ b
  rates_unique K = range_unique S K (λ D. Rate S D v) rate_steady

  module _ (b : v < n) (E M : ℕ) (off : (r : ℕ) → r < S.rules → S.offset r ≤ E) (live : Live S) (some : SomeLoopTo S v) where
    -- THERE IS A RATE
    pub rate_exists : (D : ℕ → ℕ) → ((r : ℕ) → r < S.rules → D r ≤ M) → (P : ℕ) × (Q : ℕ) × Rate S D v P Q × Lowest P Q
    rate_exists D most =
        let (p, q, x, l) = period_exists (steered S f) n (fits_steered S v f s n b fits) E M off D most (live_steered S v f s live) (some_steered S v f s some) in
        (p, q, rate_plain S v f s D p q x, l)

    -- AND A RANGE
    pub rates_exist : (K : Ranges) → Proper S K → ((r : ℕ) → r < S.rules → K.greatest r ≤ M) → (a : Range) × Rates S K v a
    rates_exist K proper most =
        let (p, q, x, l) = rate_exists K.least (λ r c. omega (arith, proper r c, most r c)) in
        let (P, Q, y, h) = rate_exists K.greatest most in
        let (e, m) = exact_exists p q P Q in
        (record { low_p = p; low_q = q; high_p = P; high_q = Q; exact = e }, range_is S K (λ D. Rate S D v) rate_steady proper p q P Q e x l y h m)

-- ---------------------------------------------------------------------------------------------------------------------- rates of several transitions

-- where every loop that reaches u reaches w, the rate of w is no lower than that of u
rate_held : (S : Shape) (D : ℕ → ℕ) (u w : ℕ) → ((x : ℕ) (rs : List ℕ) → LoopTo S u x rs → LoopTo S w x rs) → (P Q P' Q' : ℕ) → Rate S D u P Q → Rate S D w P' Q' → P * Q' ≤ P' * Q
rate_held S D u w on P Q P' Q' a b =
    le_of_mul-le-mul_right
    (omega (arith, ap (λ x. Q' * x) a.attained, mul-le-mul_left Q (b.highest a.at a.loop (on a.at a.loop a.is_loop_to))))
    a.turns

pub loop_onward : (S : Shape) (u w : ℕ) → Reaches S u w → (x : ℕ) (rs : List ℕ) → LoopTo S u x rs → LoopTo S w x rs
loop_onward S u w on x rs l = record { is_loop = l.is_loop; reaches = reach_over S x u w l.reaches.way l.reaches.leads on }

-- A RATE NEVER FALLS ALONG RULES: 000, (2.8)
pub rate_rises : (S : Shape) (D : ℕ → ℕ) (u w : ℕ) → Reaches S u w → (P Q P' Q' : ℕ) → Rate S D u P Q → Rate S D w P' Q' → P * Q' ≤ P' * Q
rate_rises S D u w on = rate_held S D u w (loop_onward S u w on)

-- a rule leads from its source to its target
pub rule_reaches : (S : Shape) (r : ℕ) → r < S.rules → Reaches S (S.source r) (S.target r)
rule_reaches S r b = record { way = r ∷ []; leads = (b, refl, refl) }

-- the transitions that a loop visits reach each other
pub visited : (S : Shape) (u : ℕ) (rs : List ℕ) (s : ℕ) (ss : List ℕ) → Loop S u (rs ++ (s ∷ ss)) → Reaches S u (S.source s) × Reaches S (S.source s) u
visited S u rs s ss l = let t = walk_split S u u rs s ss l.closed in (record { way = rs; leads = t.0 }, record { way = s ∷ ss; leads = t.1 })

-- TRANSITIONS ON ONE LOOP SHARE THEIR RATE
module _ (S : Shape) (u w : ℕ) (to : Reaches S u w) (back : Reaches S w u) where
  pub rate_shared : (D : ℕ → ℕ) (P Q : ℕ) → Rate S D u P Q → Rate S D w P Q
  rate_shared D P Q a =
      record {
        q_pos = a.q_pos;
        at = a.at;
        loop = a.loop;
        is_loop_to = loop_onward S u w to a.at a.loop a.is_loop_to;
        turns = a.turns;
        attained = a.attained;
        highest = λ x rs l. a.highest x rs (loop_onward S w u back x rs l);
      }

module _ (S : Shape) (K : Ranges) (u w : ℕ) (to : Reaches S u w) (back : Reaches S w u) where
  pub rates_shared : (a : Range) → Rates S K u a → Rates S K w a
  rates_shared a x =
      let l = x.low.attained in
      let h = x.high.attained in
      record {
        low = record {
          attained = record { D = l.D; fills = l.fills; given = rate_shared S u w to back l.D _ _ l.given; lowest = l.lowest };
          least = λ E e P Q p. x.low.least E e P Q (rate_shared S w u back to E P Q p);
        };
        high = record {
          attained = record { D = h.D; fills = h.fills; given = rate_shared S u w to back h.D _ _ h.given; lowest = h.lowest };
          greatest = λ E e P Q p. x.high.greatest E e P Q (rate_shared S w u back to E P Q p);
        };
        meet = x.meet;
      }

-- THE LARGEST RATE OF ALL IS THE PERIOD
pub rate_within : (S : Shape) (D : ℕ → ℕ) (v P Q P' Q' : ℕ) → Rate S D v P Q → Period S D P' Q' → P * Q' ≤ P' * Q
rate_within S D v P Q P' Q' a b =
    le_of_mul-le-mul_right
    (omega (arith, ap (λ x. Q' * x) a.attained, mul-le-mul_left Q (b.highest a.at a.loop a.is_loop_to.is_loop)))
    a.turns

pub period_rate_lem : (S : Shape) (D : ℕ → ℕ) (P Q : ℕ) → (p : Period S D P Q) → Rate S D p.at P Q
period_rate_lem S D P Q p =
    record {
      q_pos = p.q_pos;
      at = p.at;
      loop = p.loop;
      is_loop_to = record { is_loop = p.is_loop; reaches = reach_here S p.at };
      turns = p.turns;
      attained = p.attained;
      highest = λ u rs l. p.highest u rs l.is_loop;
    }
