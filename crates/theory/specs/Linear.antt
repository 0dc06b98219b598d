-- Document 000's linear timing functions in which each transition has its own cycle period: the rates have one, and no such function has lower ones.
--
--   rate_scaled              a rate in other terms
--   own_rates_exist          rates of all transitions over one denominator
--   own_rises, own-same      they never fall along rules, and are equal where two transitions reach each other
--   own_linear               THERE IS A LINEAR TIMING FUNCTION WITH THESE RATES: (2.7), (2.8)
--   periods_rise             the cycle periods of a linear timing function never fall along a rule: (2.8)
--   linear_rates_minimum     and none is below the rate
use Rattle.std.specs.Prelude.{◌≡◌, refl, ◌⊎◌, List, [], ◌∷◌, ◌++◌, ℕ, zero, suc, ◌+◌, ◌*◌, ◌-◌, ◌≤◌, ◌<◌, get_or}
use Rattle.std.proofs.Common.{ap, subst, inl, inr, ⊎_elim, arith, mul-le-mul_left, mul-le-mul_right, mul-le-mul, le_of_mul-le-mul_right, le_antisymm, le_refl, lt_of_not-le}
use Rattle.std.proofs.Math.Logic.{by_cases}
use Rattle.std.proofs.Math.Decide.{dec_lt, dec_le}
use Rattle.model.specs.Shape.{Shape, Fits}
use Rattle.model.specs.Sums.{delays, offsets}
use Rattle.model.specs.Distinct.{Distinct}
use Rattle.model.specs.Walk.{Walk, sources}
use Rattle.model.specs.Loop.{Loop, Live}
use Rattle.model.specs.Ratio.{Divides}
use Rattle.model.specs.Period.{NotAbove}
use Rattle.model.specs.Rate.{Reaches, LoopTo, NoLoopTo, Rate}
use Rattle.model.specs.Thesis.{OwnRates, LinearRates}
use Rattle.theory.specs.Walk.{walk_append}
use Rattle.theory.specs.Loop.{loop_start}
use Rattle.theory.specs.Knot.{loop_or_none}
use Rattle.theory.specs.Relax.{values}
use Rattle.theory.specs.Period.{period_exists, schedule_above}
use Rattle.theory.specs.Rate.{reach_here, rule_reaches, steered, steering, rate_plain, live_steered, none_plain, fits_steered, loop_onward, rate_rises}

pub rate_scaled : (S : Shape) (D : ℕ → ℕ) (v P q Q k : ℕ) → 0 < Q → Q ≡ k * q → Rate S D v P q → Rate S D v (P * k) Q
rate_scaled S D v P q Q k pos e x =
    record {
      q_pos = pos;
      at = x.at;
      loop = x.loop;
      is_loop_to = x.is_loop_to;
      turns = x.turns;
      attained = omega (arith, ap (λ y. k * y) x.attained, ap (λ y. y * delays D x.loop) e);
      highest = λ u rs l. omega (arith, mul-le-mul_left k (x.highest u rs l), ap (λ y. y * delays D rs) e);
    }

-- ----------------------------------------------------------------------------------------------------------------------------- one denominator for all

module _ (S : Shape) (D : ℕ → ℕ) (n : ℕ) (fits : Fits S n) (E M : ℕ) (off : (r : ℕ) → r < S.rules → S.offset r ≤ E) (most : (r : ℕ) → r < S.rules → D r ≤ M) (live : Live S) where
  -- the rate of one transition, in some terms
  record One (v : ℕ) : Type 0 where
    p : ℕ
    q : ℕ
    q_pos : 0 < q
    own : v < n → Rate S D v p q ⊎ (NoLoopTo S v × (p ≡ 0))

  one : (v : ℕ) → One v
  one v = by_cases (dec_lt v n) inside (λ b. record { p = 0; q = 1; q_pos = omega arith; own = λ l. absurd (b l) })
    where
      inside : v < n → One v
      inside b =
          let (f, s) = steering S n fits v in
          let fits_t = fits_steered S v f s n b fits in
          ⊎_elim
          (λ some.
          let (p, q, i, l) = period_exists (steered S f) n fits_t E M off D most (live_steered S v f s live) some in
          let x = rate_plain S v f s D p q i in
          record { p = p; q = q; q_pos = x.q_pos; own = λ _. inl x })
          (λ none. record { p = 0; q = 1; q_pos = omega arith; own = λ _. inr (none_plain S v f s none, refl) })
          (loop_or_none (steered S f) n fits_t)

  -- a common multiple of the denominators of the first k
  record Common (k : ℕ) : Type 0 where
    Q : ℕ
    pos : 0 < Q
    multiple : (v : ℕ) → v < k → Divides (one v).q Q

  common : (k : ℕ) → Common k
  common zero = record { Q = 1; pos = omega arith; multiple = λ v b. absurd (omega arith) }
  common (suc k) =
      let c = common k in
      record {
        Q = c.Q * (one k).q;
        pos = mul-le-mul c.pos (one k).q_pos;
        multiple = λ v b.
            by_cases (dec_lt v k)
            (λ l. let (j, e) = c.multiple v l in (j * (one k).q, omega (arith, ap (λ x. x * (one k).q) e)))
            (λ l. let e : v ≡ k = omega arith in rw e (c.Q, refl));
      }

  over : (v : ℕ) → (x : ℕ) × (v < n → Rate S D v x (common n).Q ⊎ (NoLoopTo S v × (x ≡ 0)))
  over v =
      by_cases (dec_lt v n)
      (λ b.
      let (k, e) = (common n).multiple v b in
      ((one v).p * k, λ _. ⊎_elim (λ x. inl (rate_scaled S D v (one v).p (one v).q (common n).Q k (common n).pos e x)) (λ x. inr (x.0, omega (arith, ap (λ y. y * k) x.1))) ((one v).own b)))
      (λ b. (0, λ l. absurd (b l)))

  pub own_rates_exist : (p : ℕ → ℕ) × (Q : ℕ) × (0 < Q) × OwnRates S D n p Q
  own_rates_exist = (λ v. (over v).0, (common n).Q, (common n).pos, λ v b. (over v).1 b)

-- ----------------------------------------------------------------------------------------------------------------------------------- the function

module _ (S : Shape) (D : ℕ → ℕ) (n : ℕ) (fits : Fits S n) (p : ℕ → ℕ) (Q : ℕ) (pos : 0 < Q) (own : OwnRates S D n p Q) where
  pub own_rises : (u w : ℕ) → u < n → w < n → Reaches S u w → p u ≤ p w
  own_rises u w bu bw on =
      ⊎_elim
      (λ a. ⊎_elim
      (λ b. le_of_mul-le-mul_right (rate_rises S D u w on (p u) Q (p w) Q a b) pos)
      (λ b. absurd (b.0 a.at a.loop (loop_onward S u w on a.at a.loop a.is_loop_to)))
      (own w bw))
      (λ a. omega (arith, a.1))
      (own u bu)

  -- the rules, each with the rate of its target as part of its offset: at the ratio 1/Q a schedule of these is the function wanted
  abbrev weighed : Shape
  weighed = record { rules = S.rules; source = S.source; target = S.target; offset = λ r. p (S.target r) * S.offset r }

  plain_walk : (u w : ℕ) (rs : List ℕ) → Walk weighed u w rs → Walk S u w rs
  plain_walk u w [] h = h
  plain_walk u w (r ∷ rs) h = (h.0, h.1, plain_walk (S.target r) w rs h.2)

  plain_sources : (rs : List ℕ) → sources weighed rs ≡ sources S rs
  plain_sources [] = refl
  plain_sources (r ∷ rs) = ap (λ l. S.source r ∷ l) (plain_sources rs)

  plain_loop : (u : ℕ) (rs : List ℕ) → Loop weighed u rs → Loop S u rs
  plain_loop u rs l = record { some_rule = l.some_rule; closed = plain_walk u u rs l.closed; simple = subst Distinct (plain_sources rs) l.simple }

  -- round a loop all rates are equal
  weighed_offsets : (u x : ℕ) (rs : List ℕ) → u < n → Reaches S u x → Walk S x u rs → offsets weighed rs ≡ p u * offsets S rs
  weighed_offsets u x [] b on h = omega arith
  weighed_offsets u x (r ∷ rs) b on h =
      let t = S.target r in
      let l = (fits r h.0).1 in
      let to : Reaches S u t = record { way = on.way ++ (r ∷ []); leads = walk_append S u x t on.way (r ∷ []) on.leads (h.0, h.1, refl) } in
      let back : Reaches S t u = record { way = rs; leads = h.2 } in
      let e : p t ≡ p u = le_antisymm (own_rises t u l b back) (own_rises u t b l to) in
      omega (arith, ap (λ y. y * S.offset r) e, weighed_offsets u t rs b to h.2)

  not_above : (u : ℕ) (rs : List ℕ) → Loop weighed u rs → NotAbove weighed D 1 Q rs
  not_above u rs l =
      let m = plain_loop u rs l in
      let b = loop_start S n fits u rs m in
      let to : LoopTo S u u rs = record { is_loop = m; reaches = reach_here S u } in
      omega (
        arith,
        weighed_offsets u u rs b (reach_here S u) m.closed,
        ⊎_elim (λ (a : Rate S D u (p u) Q). a.highest u rs to) (λ a. absurd (a.0 u rs to)) (own u b),
      )

  -- THE RATES HAVE A LINEAR TIMING FUNCTION. A loop's transitions share their rate, which is not below the loop's quotient: so no loop asks for more.
  pub own_linear : LinearRates S D p Q (values weighed D 1 Q n n)
  own_linear r i b h =
      let X = values weighed D 1 Q n n in
      let k = (schedule_above weighed D n 1 Q fits not_above).is_schedule.keeps r b in
      let up = own_rises (S.source r) (S.target r) (fits r b).0 (fits r b).1 (rule_reaches S r b) in
      let e : i ≡ S.offset r + (i - S.offset r) = omega arith in
      omega (arith, k, mul-le-mul_right (i - S.offset r) up, ap (λ x. p (S.target r) * x) e)

-- ------------------------------------------------------------------------------------------------------------------------------------ no lower ones

module _ (S : Shape) (D : ℕ → ℕ) (p : ℕ → ℕ) (Q : ℕ) (X : List ℕ) (linear : LinearRates S D p Q X) where
  -- at a late enough occurrence a source of a longer cycle period would come after its target
  pub periods_rise : (r : ℕ) → r < S.rules → p (S.source r) ≤ p (S.target r)
  periods_rise r b =
      by_cases (dec_le (p (S.source r)) (p (S.target r))) (λ l. l) (λ l. absurd (late (lt_of_not-le l)))
    where
      after : (k : ℕ) → k ≡ suc (get_or X (S.target r) 0 + p (S.target r) * S.offset r) → p (S.target r) < p (S.source r) → ⊥
      after k is l =
          let e : S.offset r + k - S.offset r ≡ k = omega arith in
          omega (arith, linear r (S.offset r + k) b (omega arith), ap (λ x. p (S.source r) * x) e, mul-le-mul_right k l)

      late : p (S.target r) < p (S.source r) → ⊥
      late l = after (suc (get_or X (S.target r) 0 + p (S.target r) * S.offset r)) refl l

  walk_periods : (u w : ℕ) (rs : List ℕ) → Walk S u w rs → p u ≤ p w
  walk_periods u w [] h = omega (arith, ap p h)
  walk_periods u w (r ∷ rs) h = omega (arith, ap p h.1, periods_rise r h.0, walk_periods (S.target r) w rs h.2)

  walk_linear : (u w : ℕ) (rs : List ℕ) → Walk S u w rs → get_or X u 0 + Q * delays D rs ≤ get_or X w 0 + p w * offsets S rs
  walk_linear u w [] h = omega (arith, ap (λ x. get_or X x 0) h)
  walk_linear u w (r ∷ rs) h =
      let z : S.offset r - S.offset r ≡ 0 = omega arith in
      omega (
        arith,
        ap (λ x. get_or X x 0) h.1,
        linear r (S.offset r) h.0 (le_refl _),
        ap (λ x. p (S.source r) * x) z,
        mul-le-mul_right (S.offset r) (walk_periods (S.target r) w rs h.2),
        walk_linear (S.target r) w rs h.2,
      )

  -- NONE IS BELOW THE RATE
  pub linear_rates_minimum : (v P q : ℕ) → Rate S D v P q → P * Q ≤ p v * q
  linear_rates_minimum v P q x =
      let l = x.is_loop_to in
      le_of_mul-le-mul_right
      (omega (
        arith,
        ap (λ y. Q * y) x.attained,
        mul-le-mul_left q (walk_linear x.at x.at x.loop l.is_loop.closed),
        mul-le-mul_right (q * offsets S x.loop) (walk_periods x.at v l.reaches.way l.reaches.leads),
      ))
      x.turns
