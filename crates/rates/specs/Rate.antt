-- The rate of one transition of a table: the verdict, and what `rate` hands back for it.
--
--   RateVerdict             == a field is outside the limits; the transition is none of the table's; a loop has no turn; no loop reaches the transition;
--                              a sum is too wide; or the range of its rate
--   JudgesRate t v x        == x is the verdict on the rate of transition v of the table t
--   refused_rate f p       == refused with number f at place p: all else 0
--   told_rate r            == what is told by what the crate hands back
--   rated_of n x            == what is handed back for the verdict x, where n is the table's: numbers of refusal are the paper's
--   RateOf t v r          == THE PROMISE of `rate`
--
-- Theorems: rate_never_wide (refusal 11 never comes), rate_verdict_exists, rate_verdict_unique, rate_unique (one outcome).
use Rattle.std.specs.Prelude.{◌≡◌, refl, Bool, false, ◌≢◌, ◌⊎◌, List, ℕ, ◌≤◌, ◌<◌, get_or, take, Option, None, Some, Result, Ok, Err}
use Rattle.std.proofs.Common.{sym, ap, ◌∙◌, subst, inl, inr, ⊎_elim, arith}
use Rattle.std.proofs.Math.Logic.{by_cases}
use Rattle.std.proofs.Math.Decide.{dec_lt}
use Rattle.model.specs.Shape.{Shape, Fits}
use Rattle.model.specs.Loop.{SomeLoop, NoLoop, Live}
use Rattle.model.specs.Knot.{Knot}
use Rattle.model.specs.Ratio.{Lowest}
use Rattle.model.specs.Filling.{Ranges}
use Rattle.model.specs.Period.{Period}
use Rattle.model.specs.Ends.{Exact, Range}
use Rattle.model.specs.Rate.{SomeLoopTo, NoLoopTo, Rate, Rates}
use Rattle.theory.specs.Knot.{knot_unique, knot_not_live, knot_or_live, loop_or_none, first_knot}
use Rattle.theory.specs.Schedule.{TightRule}
use Rattle.theory.specs.Climb.{climbed_period, climbed_none}
use Rattle.theory.specs.Same.{period_same}
use Rattle.theory.specs.Wide.{period_limits}
use Rattle.theory.specs.Ends.{range_is}
use Rattle.theory.specs.Rate.{steered, steering, rate_steered, rate_plain, none_plain, some_plain, fits_steered, rate_steady, rates_unique, rates_exist}
use Rattle.theory.specs.Gather.{Gathers, none_gathered, rate_gathered}
use Rattle.table.specs.declared.Table.{Table}
use Rattle.table.specs.Limits.{max_offset, max_delay}
use Rattle.table.specs.Fields.{Within, FirstBad, within_or_first_bad, within_not_bad, first_bad_unique}
use Rattle.table.specs.Meaning.{shape_of, ranges_of, within_fits, within_offsets, within_delays}
use Rattle.refusals.specs.declared.Refusal.{Refusal}
use Rattle.refusals.specs.Number.{number_of}
use Rattle.engine.specs.declared.Ratio.{Ratio}
use Rattle.engine.specs.declared.Range.{Range as Given}
use Rattle.columns.specs.Columns.{shape, delay_at}
use Rattle.columns.specs.declared.Columns.{Columns}
use Rattle.columns.specs.declared.rules.Filled.{Filled}
use Rattle.columns.specs.Views.{of_columns, of_filled, delays_of}
use Rattle.loops.specs.Found.{FoundFirst}
use Rattle.columns.specs.Lay.{Laid, laid_shape, laid_least, laid_greatest}
use Rattle.search.specs.Search.{Reached}
use Rattle.engine.specs.Verdict.{WideAt, proper, range_never_wide}
use Rattle.engine.specs.Lap.{ranges_in, ends_live}

pub data RateVerdict : Type 0 where
  bad_field : ℕ → RateVerdict
  no_name : RateVerdict
  knot_at : ℕ → RateVerdict
  unreached : RateVerdict
  too_wide : RateVerdict
  rated : Range → RateVerdict

-- each case in the paper's order: what is judged later asks that nothing before it was met
abbrev pub JudgesRate : Table → ℕ → RateVerdict → Type 0
JudgesRate t v (bad_field k) = FirstBad t k
JudgesRate t v no_name = Within t × (t.n ≤ v)
JudgesRate t v (knot_at u) = Within t × (v < t.n) × Knot (shape_of t) u
JudgesRate t v unreached = Within t × (v < t.n) × Live (shape_of t) × NoLoopTo (shape_of t) v
JudgesRate t v too_wide = Within t × (v < t.n) × Live (shape_of t) × ((a : Range) × Rates (shape_of t) (ranges_of t) v a × WideAt (shape_of t) (ranges_of t) a)
JudgesRate t v (rated a) = Within t × (v < t.n) × Live (shape_of t) × Rates (shape_of t) (ranges_of t) v a × (¬ (WideAt (shape_of t) (ranges_of t) a))

-- what is told of a transition: number 0 and place 0 with the two ends of its rate, or the number and the place of a refusal, and all else 0
pub record Rated : Type 0 where
  pub refusal : ℕ
  pub place : ℕ
  pub exact : Bool
  pub low : Ratio
  pub high : Ratio

abbrev pub refused_rate : ℕ → ℕ → Rated
refused_rate f p = record { refusal = f; place = p; exact = false; low = record { p = 0; q = 0 }; high = record { p = 0; q = 0 } }

-- what is told by what the crate hands back
abbrev pub told_rate : Result Given Refusal → Rated
told_rate (Ok x) = record { refusal = 0; place = 0; exact = x.exact; low = x.low; high = x.high }
told_rate (Err e) = refused_rate (number_of e.why) e.place

abbrev pub answered_rate : Range → Rated
answered_rate a = record { refusal = 0; place = 0; exact = a.exact; low = record { p = a.low_p; q = a.low_q }; high = record { p = a.high_p; q = a.high_q } }

abbrev pub rated_of : ℕ → RateVerdict → Rated
rated_of n (bad_field k) = refused_rate 3 k
rated_of n no_name = refused_rate 10 n
rated_of n (knot_at u) = refused_rate 5 u
rated_of n unreached = refused_rate 6 0
rated_of n too_wide = refused_rate 11 0
rated_of n (rated a) = answered_rate a

pub record RateOf (t : Table) (v : ℕ) (r : Rated) : Type 0 where
  pub verdict : RateVerdict
  pub judged : JudgesRate t v verdict
  pub result : r ≡ rated_of t.n verdict

-- ------------------------------------------------------------------------------------------------------------------------- one verdict, and there

-- NEVER WIDE: the rate is the period of the steered rules, which have the same offsets and delays
pub rate_never_wide : (t : Table) → Within t → (v : ℕ) → v < t.n → (a : Range) → Rates (shape_of t) (ranges_of t) v a → ¬ (WideAt (shape_of t) (ranges_of t) a)
rate_never_wide t w v b a x =
    let fits = within_fits t w in
    let (f, s) = steering (shape_of t) t.n fits v in
    range_never_wide t w (λ D. Rate (shape_of t) D v)
    (λ D d P Q p. period_limits (steered (shape_of t) f) D t.n P Q w.n_high (fits_steered (shape_of t) v f s t.n b fits) (within_offsets t w) d (rate_steered (shape_of t) v f s D P Q p))
    a x

-- THERE IS A VERDICT
pub rate_verdict_exists : (t : Table) (v : ℕ) → (x : RateVerdict) × JudgesRate t v x
rate_verdict_exists t v = ⊎_elim inside (λ b. (bad_field b.0, b.1)) (within_or_first_bad t)
  where
    answer : Within t → v < t.n → Live (shape_of t) → SomeLoopTo (shape_of t) v → (x : RateVerdict) × JudgesRate t v x
    answer w b live some =
        let (a, x) = rates_exist (shape_of t) t.n (within_fits t w) v b max_offset max_delay (within_offsets t w) live some (ranges_of t) (proper t) (within_delays t w) in
        (rated a, (w, b, live, x, rate_never_wide t w v b a x))

    named : Within t → v < t.n → (x : RateVerdict) × JudgesRate t v x
    named w b =
        let (f, s) = steering (shape_of t) t.n (within_fits t w) v in
        ⊎_elim
        (λ k. (knot_at k.0, (w, b, k.1)))
        (λ live. ⊎_elim (λ l. answer w b live (some_plain (shape_of t) v f s l)) (λ none. (unreached, (w, b, live, none_plain (shape_of t) v f s none)))
        (loop_or_none (steered (shape_of t) f) t.n (fits_steered (shape_of t) v f s t.n b (within_fits t w))))
        (knot_or_live (shape_of t) t.n (within_fits t w))

    inside : Within t → (x : RateVerdict) × JudgesRate t v x
    inside w = by_cases (dec_lt v t.n) (named w) (λ b. (no_name, (w, omega arith)))

-- a range speaks of a loop
rates_loop : (S : Shape) (K : Ranges) (v : ℕ) (a : Range) → Rates S K v a → ¬ (NoLoopTo S v)
rates_loop S K v a x none = let r = x.low.attained.given in none r.at r.loop r.is_loop_to

-- ONLY ONE
pub rate_verdict_unique : (t : Table) (v : ℕ) (x y : RateVerdict) → JudgesRate t v x → JudgesRate t v y → x ≡ y
rate_verdict_unique t v (bad_field j) (bad_field k) a b = ap bad_field (first_bad_unique t j k a b)
rate_verdict_unique t v (bad_field j) no_name a b = absurd (within_not_bad t j b.0 a)
rate_verdict_unique t v (bad_field j) (knot_at u) a b = absurd (within_not_bad t j b.0 a)
rate_verdict_unique t v (bad_field j) unreached a b = absurd (within_not_bad t j b.0 a)
rate_verdict_unique t v (bad_field j) too_wide a b = absurd (within_not_bad t j b.0 a)
rate_verdict_unique t v (bad_field j) (rated y) a b = absurd (within_not_bad t j b.0 a)
rate_verdict_unique t v no_name (bad_field k) a b = absurd (within_not_bad t k a.0 b)
rate_verdict_unique t v no_name no_name a b = refl
rate_verdict_unique t v no_name (knot_at u) a b = absurd (omega (arith, b.1))
rate_verdict_unique t v no_name unreached a b = absurd (omega (arith, b.1))
rate_verdict_unique t v no_name too_wide a b = absurd (omega (arith, b.1))
rate_verdict_unique t v no_name (rated y) a b = absurd (omega (arith, b.1))
rate_verdict_unique t v (knot_at u) (bad_field k) a b = absurd (within_not_bad t k a.0 b)
rate_verdict_unique t v (knot_at u) no_name a b = absurd (omega (arith, a.1))
rate_verdict_unique t v (knot_at u) (knot_at w) a b = ap knot_at (knot_unique (shape_of t) u w a.2 b.2)
rate_verdict_unique t v (knot_at u) unreached a b = absurd (knot_not_live (shape_of t) u a.2 b.2)
rate_verdict_unique t v (knot_at u) too_wide a b = absurd (knot_not_live (shape_of t) u a.2 b.2)
rate_verdict_unique t v (knot_at u) (rated y) a b = absurd (knot_not_live (shape_of t) u a.2 b.2)
rate_verdict_unique t v unreached (bad_field k) a b = absurd (within_not_bad t k a.0 b)
rate_verdict_unique t v unreached no_name a b = absurd (omega (arith, a.1))
rate_verdict_unique t v unreached (knot_at w) a b = absurd (knot_not_live (shape_of t) w b.2 a.2)
rate_verdict_unique t v unreached unreached a b = refl
rate_verdict_unique t v unreached too_wide a b = absurd (rate_never_wide t b.0 v b.1 b.3.0 b.3.1 b.3.2)
rate_verdict_unique t v unreached (rated y) a b = absurd (rates_loop (shape_of t) (ranges_of t) v y b.3 a.3)
rate_verdict_unique t v too_wide y a b = absurd (rate_never_wide t a.0 v a.1 a.3.0 a.3.1 a.3.2)
rate_verdict_unique t v (rated x) (bad_field k) a b = absurd (within_not_bad t k a.0 b)
rate_verdict_unique t v (rated x) no_name a b = absurd (omega (arith, a.1))
rate_verdict_unique t v (rated x) (knot_at w) a b = absurd (knot_not_live (shape_of t) w b.2 a.2)
rate_verdict_unique t v (rated x) unreached a b = absurd (rates_loop (shape_of t) (ranges_of t) v x a.3 b.3)
rate_verdict_unique t v (rated x) too_wide a b = absurd (rate_never_wide t b.0 v b.1 b.3.0 b.3.1 b.3.2)
rate_verdict_unique t v (rated x) (rated y) a b = ap rated (rates_unique (shape_of t) t.n (within_fits t a.0) v (ranges_of t) x y a.3 b.3)

-- ONLY ONE OUTCOME
pub rate_unique : (t : Table) (v : ℕ) (r s : Rated) → RateOf t v r → RateOf t v s → r ≡ s
rate_unique t v r s a b = a.result ∙ ap (rated_of t.n) (rate_verdict_unique t v a.verdict b.verdict a.judged b.judged) ∙ sym b.result

-- ---------------------------------------------------------------------------------------------------------------------------- how the code ends

pub rate_outside : (t : Table) (v f k : ℕ) (r : Rated) → FirstBad t k × (f ≡ 3) → r ≡ refused_rate f k → RateOf t v r
rate_outside t v f k r b e = record { verdict = bad_field k; judged = b.0; result = e ∙ ap (λ x. refused_rate x k) b.1 }

-- two sides put together
pub record MetRate (p q P Q : ℕ) (r : Rated) : Type 0 where
  pub exact : Bool
  pub meets : Exact p q P Q exact
  pub result : r ≡ answered_rate (record { low_p = p; low_q = q; high_p = P; high_q = Q; exact = exact })

-- a period in lowest terms
abbrev pub InLowest : Shape → (ℕ → ℕ) → ℕ → ℕ → Type 0
InLowest S D p q = Period S D p q × Lowest p q

-- one side: no loop, or the period in lowest terms
abbrev pub Paced : Shape → (ℕ → ℕ) → Option Ratio → Type 0
Paced S D None = NoLoop S
Paced S D (Some a) = InLowest S D a.p a.q

-- both sides: refused 6 where there is no loop, else the periods with the least and with the greatest delays
abbrev pub RatedIn : Shape → Ranges → Rated → Type 0
RatedIn S K r =
    (NoLoop S × (r ≡ refused_rate 6 0))
    ⊎ ((a : Range) × InLowest S K.least a.low_p a.low_q × InLowest S K.greatest a.high_p a.high_q × Exact a.low_p a.low_q a.high_p a.high_q a.exact × (r ≡ answered_rate a))

-- the same for the loops that reach v
abbrev pub RatedTo : Shape → Ranges → ℕ → Rated → Type 0
RatedTo S K v r =
    (NoLoopTo S v × (r ≡ refused_rate 6 0))
    ⊎ ((a : Range) × (Rate S K.least v a.low_p a.low_q × Lowest a.low_p a.low_q) × (Rate S K.greatest v a.high_p a.high_q × Lowest a.high_p a.high_q) × Exact a.low_p a.low_q a.high_p a.high_q a.exact × (r ≡ answered_rate a))

module _ (S : Shape) (D : ℕ → ℕ) (P Q : ℕ) (X : List ℕ) (live : Live S) (c : Reached S D P Q X) where
  pub paced : SomeLoop S → Paced S D (Some (record { p = P; q = Q }))
  paced some = (climbed_period S D P Q X c.climbed live some, c.climbed.lowest)

  module _ (n len at : ℕ) (rules : List ℕ) (f : FoundFirst S (TightRule S D P Q X) n len at rules) where
    pub paced_tight : len ≢ 0 → Paced S D (Some (record { p = P; q = Q }))
    paced_tight d = paced (record { at = at; loop = take len rules; is_loop = (f.some (omega arith)).is_one.is_loop })

    pub paced_none : len ≡ 0 → Paced S D None
    paced_none e = climbed_none S D P Q X c.climbed (f.none e)

-- the same side for delays that agree
pub paced_same : (S : Shape) (D E : ℕ → ℕ) → ((r : ℕ) → r < S.rules → D r ≡ E r) → (a : Option Ratio) → Paced S D a → Paced S E a
paced_same S D E same None x = x
paced_same S D E same (Some a) x = (period_same S D E same a.p a.q x.0, x.1)

-- what was found with one of the two delays of the columns is said of the columns
pub paced_columns : (c : Columns) (r : Filled) → (r.source.now ≡ c.source) × (r.target.now ≡ c.target) × (r.offset.now ≡ c.offset) → (delay : List ℕ) → r.delay.now ≡ delay
    → (r.m ≡ c.m) × (r.n ≡ c.n) → (a : Option Ratio) → Paced (of_filled r) (delays_of r) a → Paced (of_columns c) (delay_at delay) a
paced_columns c r e delay d z a h = rw (e.0, e.1, e.2, d, z.0) at h

pub ends_met : (S : Shape) (K : Ranges) (a b : Ratio) (r : Rated) → Paced S K.least (Some a) → Paced S K.greatest (Some b) → MetRate a.p a.q b.p b.q r → RatedIn S K r
ends_met S K a b r x y m = inr (record { low_p = a.p; low_q = a.q; high_p = b.p; high_q = b.q; exact = m.exact }, x, y, m.meets, m.result)

-- THE ENDS OF THE RULES WHOSE TARGETS REACH v ARE THE RATE'S
pub rated_to : (S T : Shape) (K L : Ranges) (v : ℕ) (f : ℕ → ℕ) → Gathers S T v f → ((j : ℕ) → j < T.rules → L.least j ≡ K.least (f j)) → ((j : ℕ) → j < T.rules → L.greatest j ≡ K.greatest (f j))
    → (r : Rated) → RatedIn T L r → RatedTo S K v r
rated_to S T K L v f g low high r (inl x) = inl (none_gathered S T v f g x.0, x.1)
rated_to S T K L v f g low high r (inr (a, p, q, meet, e)) =
    inr (
      a,
      (rate_gathered S T v f g K.least _ _ (period_same T L.least (λ j. K.least (f j)) low _ _ p.0), p.1),
      (rate_gathered S T v f g K.greatest _ _ (period_same T L.greatest (λ j. K.greatest (f j)) high _ _ q.0), q.1),
      meet,
      e,
    )

-- delays that agree on the rules have the same rate
rate_same : (S : Shape) (n : ℕ) → Fits S n → (D E : ℕ → ℕ) → ((r : ℕ) → r < S.rules → D r ≡ E r) → (v P Q : ℕ) → Rate S D v P Q → Rate S E v P Q
rate_same S n fits D E same v P Q x =
    let (f, s) = steering S n fits v in
    rate_plain S v f s E P Q (period_same (steered S f) D E same P Q (rate_steered S v f s D P Q x))

module _ (t : Table) (w : Within t) (v : ℕ) (b : v < t.n) (s g o l h : List ℕ) (k : Bool) (c : Laid t t.m s g o l h k)
    (len at : ℕ) (rules : List ℕ) (zero : FoundFirst (shape s g o t.m) (λ i. get_or o i 0 ≡ 0) t.n len at rules) where
  pub rate_knotted : (r : Rated) → 0 < len → r ≡ refused_rate 5 at → RateOf t v r
  rate_knotted r some e =
      record { verdict = knot_at at; judged = (w, b, subst (λ (S : Shape). Knot S at) (laid_shape t s g o l h k c) (first_knot (shape s g o t.m) at (take len rules) (zero.some some))); result = e }

  -- what is said of the columns is said of the table
  module _ (none : len ≤ 0) where
    pub columns_live : Live (shape s g o t.m)
    columns_live = ends_live zero none

    pub rate_ends : (r : Rated) → RatedTo (shape s g o t.m) (ranges_in l h) v r → RateOf t v r
    rate_ends r (inl x) =
        let z = subst (λ (S : Shape). Live S × NoLoopTo S v) (laid_shape t s g o l h k c) (columns_live, x.0) in
        record { verdict = unreached; judged = (w, b, z.0, z.1); result = x.1 }
    rate_ends r (inr (a, low, high, meet, e)) =
        let z = subst (λ (S : Shape). Live S × Rate S (ranges_in l h).least v a.low_p a.low_q × Rate S (ranges_in l h).greatest v a.high_p a.high_q) (laid_shape t s g o l h k c) (columns_live, low.0, high.0) in
        let fits = within_fits t w in
        let rates : Rates (shape_of t) (ranges_of t) v a =
        range_is (shape_of t) (ranges_of t) (λ D. Rate (shape_of t) D v) (rate_steady (shape_of t) t.n fits v) (proper t) _ _ _ _ _
        (rate_same (shape_of t) t.n fits _ _ (laid_least t s g o l h k c) v _ _ z.1) low.1
        (rate_same (shape_of t) t.n fits _ _ (laid_greatest t s g o l h k c) v _ _ z.2) high.1 meet in
        record { verdict = rated a; judged = (w, b, z.0, rates, rate_never_wide t w v b a rates); result = e }
