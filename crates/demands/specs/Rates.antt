-- THE DEMANDS, FOR EACH TRANSITION'S RATE; and how the rates of one table stand to each other.
--
--   unreached_refused    every loop turns and none reaches v: refused 6
--   reached_answered     every loop turns and one reaches v: answered
--   six_only             and so 6 is given in no other case
--   InwardRate x y       == what filling may do to the verdict on a rate: nothing to a refusal; a rate's ends move inward, and an exact one stays
--   rate_filled_inward   DEMAND 3 FOR RATES, between the verdicts on two tables, the second with some blanks filled
--   rates_rise           neither end falls along a rule
--   rates_within         neither end is above the table's
--   low_attained, high_attained    and some transition has it as its own
use Rattle.std.specs.Prelude.{◌≡◌, ℕ, ◌*◌, ◌≤◌, ◌<◌}
use Rattle.std.proofs.Common.{sym, ap, ◌∙◌, subst, arith}
use Rattle.model.specs.Shape.{Shape, Fits}
use Rattle.model.specs.Loop.{Live}
use Rattle.model.specs.Knot.{Knot}
use Rattle.model.specs.Ratio.{Lowest}
use Rattle.model.specs.Period.{Period}
use Rattle.model.specs.Ends.{LowEnd, HighEnd, Range}
use Rattle.model.specs.Answer.{Answer, Answers}
use Rattle.model.specs.Rate.{SomeLoopTo, NoLoopTo, Rate, Rates}
use Rattle.theory.specs.Loop.{loop_start}
use Rattle.theory.specs.Knot.{knot_not_live}
use Rattle.theory.specs.Period.{period_exists}
use Rattle.theory.specs.Ends.{period_steady, low_is, high_is, low_at_least, high_at_greatest}
use Rattle.theory.specs.Rate.{rate_steady, rate_exists, rule_reaches, rate_rises, rate_within, period_rate_lem}
use Rattle.table.specs.declared.Table.{Table}
use Rattle.table.specs.Limits.{max_offset, max_delay}
use Rattle.table.specs.Fields.{Within, within_not_bad}
use Rattle.table.specs.Meaning.{shape_of, ranges_of, within_fits, within_offsets, within_delays}
use Rattle.engine.specs.Verdict.{proper}
use Rattle.rates.specs.Rate.{RateVerdict, bad_field, no_name, knot_at, unreached, too_wide, rated, JudgesRate, rate_never_wide, rate_verdict_exists, rate_verdict_unique, refused_rate, answered_rate, rated_of, RateOf}
use Rattle.rates.specs.Rate.{Rated}
use Rattle.demands.specs.Filled.{Filled, EndsInward, ends_inward, bad_filled, within_filled, shape_filled, narrows_filled}

-- ------------------------------------------------------------------------------------------------------------------------------- refused exactly when

module _ (t : Table) (w : Within t) (v : ℕ) (b : v < t.n) (r : Rated) (is : RateOf t v r) where
  by_verdict : (x : RateVerdict) → JudgesRate t v x → r ≡ rated_of t.n x
  by_verdict x j = is.result ∙ ap (rated_of t.n) (rate_verdict_unique t v is.verdict x is.judged j)

  pub unreached_refused : Live (shape_of t) → NoLoopTo (shape_of t) v → r ≡ refused_rate 6 0
  unreached_refused live none = by_verdict unreached (w, b, live, none)

  pub reached_answered : Live (shape_of t) → SomeLoopTo (shape_of t) v → (a : Range) × Rates (shape_of t) (ranges_of t) v a × (r ≡ answered_rate a)
  reached_answered live some = at (rate_verdict_exists t v).0 (rate_verdict_exists t v).1
    where
      at : (x : RateVerdict) → JudgesRate t v x → (a : Range) × Rates (shape_of t) (ranges_of t) v a × (r ≡ answered_rate a)
      at (bad_field k) j = absurd (within_not_bad t k w j)
      at no_name j = absurd (omega (arith, j.1))
      at (knot_at u) j = absurd (knot_not_live (shape_of t) u j.2 live)
      at unreached j = absurd (j.3 some.at some.loop some.is_loop_to)
      at too_wide j = absurd (rate_never_wide t w v b j.3.0 j.3.1 j.3.2)
      at (rated a) j = (a, j.3, by_verdict (rated a) j)

  -- 6 EXACTLY THEN
  pub six_only : r.refusal ≡ 6 → Live (shape_of t) × NoLoopTo (shape_of t) v
  six_only e = at is.verdict is.judged (sym (ap (λ (x : Rated). x.refusal) is.result) ∙ e)
    where
      at : (x : RateVerdict) → JudgesRate t v x → (rated_of t.n x).refusal ≡ 6 → Live (shape_of t) × NoLoopTo (shape_of t) v
      at (bad_field k) j z = absurd (omega arith)
      at no_name j z = absurd (omega arith)
      at (knot_at u) j z = absurd (omega arith)
      at unreached j z = (j.2, j.3)
      at too_wide j z = absurd (omega arith)
      at (rated a) j z = absurd (omega arith)

-- ------------------------------------------------------------------------------------------------------------------------------------ blanks filled

abbrev pub InwardRate : RateVerdict → RateVerdict → Type 0
InwardRate (bad_field j) y = y ≡ bad_field j
InwardRate no_name y = y ≡ no_name
InwardRate (knot_at u) y = y ≡ knot_at u
InwardRate unreached y = y ≡ unreached
InwardRate too_wide y = y ≡ too_wide
InwardRate (rated a) (bad_field k) = ⊥
InwardRate (rated a) no_name = ⊥
InwardRate (rated a) (knot_at u) = ⊥
InwardRate (rated a) unreached = ⊥
InwardRate (rated a) too_wide = ⊥
InwardRate (rated a) (rated b) = EndsInward a b

module _ (t t' : Table) (f : Filled t t') (v : ℕ) where
  named : v < t.n → v < t'.n
  named b = omega (arith, f.n_same)

  inward : (a b : Range) → Within t → Rates (shape_of t) (ranges_of t) v a → Rates (shape_of t) (ranges_of t') v b → EndsInward a b
  inward a b w x y =
      ends_inward (shape_of t) (λ D. Rate (shape_of t) D v) (rate_steady (shape_of t) t.n (within_fits t w) v) (ranges_of t) (ranges_of t') (narrows_filled t t' f w) a b x y

  pub rate_filled_inward : (x y : RateVerdict) → JudgesRate t v x → JudgesRate t' v y → InwardRate x y
  rate_filled_inward (bad_field k) y j j' = rate_verdict_unique t' v y (bad_field k) j' (bad_filled t t' f k j)
  rate_filled_inward no_name y j j' = rate_verdict_unique t' v y no_name j' (within_filled t t' f j.0, omega (arith, j.1, f.n_same))
  rate_filled_inward (knot_at u) y j j' =
      rate_verdict_unique t' v y (knot_at u) j' (within_filled t t' f j.0, named j.1, subst (λ (S : Shape). Knot S u) (shape_filled t t' f) j.2)
  rate_filled_inward unreached y j j' =
      rate_verdict_unique t' v y unreached j'
      (within_filled t t' f j.0, named j.1, subst (λ (S : Shape). Live S) (shape_filled t t' f) j.2, subst (λ (S : Shape). NoLoopTo S v) (shape_filled t t' f) j.3)
  rate_filled_inward too_wide y j j' = absurd (rate_never_wide t j.0 v j.1 j.3.0 j.3.1 j.3.2)
  rate_filled_inward (rated a) (bad_field k) j j' = absurd (within_not_bad t' k (within_filled t t' f j.0) j')
  rate_filled_inward (rated a) no_name j j' = absurd (omega (arith, j.1, j'.1, f.n_same))
  rate_filled_inward (rated a) (knot_at u) j j' = absurd (knot_not_live (shape_of t') u j'.2 (subst (λ (S : Shape). Live S) (shape_filled t t' f) j.2))
  rate_filled_inward (rated a) unreached j j' =
      let p = j.3.low.attained.given in
      absurd (subst (λ (S : Shape). NoLoopTo S v) (sym (shape_filled t t' f)) j'.3 p.at p.loop p.is_loop_to)
  rate_filled_inward (rated a) too_wide j j' = absurd (rate_never_wide t' j'.0 v j'.1 j'.3.0 j'.3.1 j'.3.2)
  rate_filled_inward (rated a) (rated b) j j' = inward a b j.0 j.3 (subst (λ (S : Shape). Rates S (ranges_of t') v b) (sym (shape_filled t t' f)) j'.3)

-- ---------------------------------------------------------------------------------------------------------------------------- the rates of one table

module _ (t : Table) (w : Within t) (live : Live (shape_of t)) where
  abbrev S : Shape
  S = shape_of t

  fits : Fits (shape_of t) t.n
  fits = within_fits t w

  least : (r : ℕ) → r < t.m → (ranges_of t).least r ≤ max_delay
  least r b = omega (arith, proper t r b, within_delays t w r b)

  -- the ends are the rates with the least and with the greatest delays
  module _ (v P Q : ℕ) (b : v < t.n) where
    at_exists : (D : ℕ → ℕ) → ((r : ℕ) → r < t.m → D r ≤ max_delay) → (E : ℕ → ℕ) → Rate (shape_of t) E v P Q → (p : ℕ) × (q : ℕ) × Rate (shape_of t) D v p q × Lowest p q
    at_exists D most E x = rate_exists S t.n fits v b max_offset max_delay (within_offsets t w) live (record { at = x.at; loop = x.loop; is_loop_to = x.is_loop_to }) D most

    low_at : LowEnd (shape_of t) (ranges_of t) (λ D. Rate (shape_of t) D v) P Q → Rate (shape_of t) (ranges_of t).least v P Q
    low_at x =
        let (p, q, y, l) = at_exists (ranges_of t).least least _ x.attained.given in
        low_at_least S (ranges_of t) (λ D. Rate (shape_of t) D v) (rate_steady S t.n fits v) (proper t) P Q p q x y l

    high_at : HighEnd (shape_of t) (ranges_of t) (λ D. Rate (shape_of t) D v) P Q → Rate (shape_of t) (ranges_of t).greatest v P Q
    high_at x =
        let (p, q, y, l) = at_exists (ranges_of t).greatest (within_delays t w) _ x.attained.given in
        high_at_greatest S (ranges_of t) (λ D. Rate (shape_of t) D v) (rate_steady S t.n fits v) (proper t) P Q p q x y l

  -- NEITHER END FALLS ALONG A RULE
  pub rates_rise : (r : ℕ) → r < t.m → (a b : Range) → Rates (shape_of t) (ranges_of t) ((shape_of t).source r) a → Rates (shape_of t) (ranges_of t) ((shape_of t).target r) b
      → (a.low_p * b.low_q ≤ b.low_p * a.low_q) × (a.high_p * b.high_q ≤ b.high_p * a.high_q)
  rates_rise r l a b x y =
      let on = rule_reaches S r l in
      let c = fits r l in (
        rate_rises S _ _ _ on _ _ _ _ (low_at _ _ _ c.0 x.low) (low_at _ _ _ c.1 y.low),
        rate_rises S _ _ _ on _ _ _ _ (high_at _ _ _ c.0 x.high) (high_at _ _ _ c.1 y.high),
      )

  -- THE LARGEST RATE OF ALL IS THE TABLE'S PERIOD
  module _ (a : Answer) (x : Answers (shape_of t) (ranges_of t) t.n a) where
    one : (D : ℕ → ℕ) → ((r : ℕ) → r < t.m → D r ≤ max_delay) → (P : ℕ) × (Q : ℕ) × Period (shape_of t) D P Q × Lowest P Q
    one D most =
        let p = x.ends.low.attained.given in
        period_exists S t.n fits max_offset max_delay (within_offsets t w) D most live (record { at = p.at; loop = p.loop; is_loop = p.is_loop })

    low_period : Period (shape_of t) (ranges_of t).least a.ends.low_p a.ends.low_q
    low_period = let (p, q, y, l) = one (ranges_of t).least least in low_at_least S (ranges_of t) (Period S) (period_steady S) (proper t) _ _ p q x.ends.low y l

    high_period : Period (shape_of t) (ranges_of t).greatest a.ends.high_p a.ends.high_q
    high_period = let (p, q, y, l) = one (ranges_of t).greatest (within_delays t w) in high_at_greatest S (ranges_of t) (Period S) (period_steady S) (proper t) _ _ p q x.ends.high y l

    pub rates_within : (v : ℕ) → v < t.n → (b : Range) → Rates (shape_of t) (ranges_of t) v b → (b.low_p * a.ends.low_q ≤ a.ends.low_p * b.low_q) × (b.high_p * a.ends.high_q ≤ a.ends.high_p * b.high_q)
    rates_within v l b y = (rate_within S _ _ _ _ _ _ (low_at _ _ _ l y.low) low_period, rate_within S _ _ _ _ _ _ (high_at _ _ _ l y.high) high_period)

    pub low_attained : (v : ℕ) × (v < t.n) × LowEnd (shape_of t) (ranges_of t) (λ D. Rate (shape_of t) D v) a.ends.low_p a.ends.low_q
    low_attained =
        let p = low_period in
        (p.at, loop_start S t.n fits p.at p.loop p.is_loop, low_is S (ranges_of t) (λ D. Rate (shape_of t) D p.at) (rate_steady S t.n fits p.at) (proper t) _ _ (period_rate_lem S _ _ _ p) x.ends.low.attained.lowest)

    pub high_attained : (v : ℕ) × (v < t.n) × HighEnd (shape_of t) (ranges_of t) (λ D. Rate (shape_of t) D v) a.ends.high_p a.ends.high_q
    high_attained =
        let p = high_period in
        (p.at, loop_start S t.n fits p.at p.loop p.is_loop, high_is S (ranges_of t) (λ D. Rate (shape_of t) D p.at) (rate_steady S t.n fits p.at) (proper t) _ _ (period_rate_lem S _ _ _ p) x.ends.high.attained.lowest)
