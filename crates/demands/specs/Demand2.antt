-- DEMAND 2: with all delays given, the period is the largest delay-per-turn over all loops, in lowest terms, with one such loop and the least schedule that
-- keeps every rule; a list within the limits, with room lent, is refused exactly when a loop has no turn or when no loop exists. Times of occurrences are the
-- thesis's. Accepted files read and write back to themselves.
--
--   DelaysAre t D        == every rule r of t has the known delay D r: all delays are given (Exists)
--   Room t x l h         == each of the three buffers has a place for every transition (Refused)
--   LoopWithoutTurn S    == a loop has no turn
--
--   GivenPeriod t D b o  == what an analysis hands back then: P/Q, the loop, the schedule, and nothing else
--   given_period         THE PERIOD
--   period_linear        it is the least with a linear timing function, and the schedule is one: the thesis's (2.4) to (2.6)
--   refused_iff          REFUSED EXACTLY WHEN (with which number, at which place, and what an answer is: Refused)
--   GivenRate t D v r, given_rate, rate_refused_iff      the same for a transition's rate; rate_knot_refused, six_iff: with which number (the others: Rates)
--   SimulatedTimes t D N out, simulation_times           THE TIMES, and none earlier
--   file_written_back, table_read_back                   BOTH WAYS OF A FILE
use Rattle.std.specs.Prelude.{◌≡◌, Bool, true, ◌⊎◌, ◌↔◌, List, ◌++◌, ℕ, ◌+◌, ◌*◌, ◌-◌, ◌≤◌, ◌<◌, length, get_or, take, drop}
use Rattle.std.proofs.Common.{sym, ap, ◌∙◌, subst, inl, inr, ⊎_elim, arith}
use Rattle.std.proofs.Math.Logic.{⊎_map}
use Rattle.model.specs.Shape.{Shape}
use Rattle.model.specs.Sums.{offsets}
use Rattle.model.specs.Loop.{Loop, NoLoop, Live}
use Rattle.model.specs.Knot.{Knot}
use Rattle.model.specs.Ratio.{Lowest}
use Rattle.model.specs.Period.{Period}
use Rattle.model.specs.Schedule.{LeastSchedule}
use Rattle.model.specs.Reported.{Reported}
use Rattle.model.specs.Filling.{Given, least_of, greatest_of}
use Rattle.model.specs.Ends.{Measure, Range, RangeOf}
use Rattle.model.specs.Rate.{NoLoopTo, Rate}
use Rattle.model.specs.Answer.{Answer}
use Rattle.model.specs.Times.{AreTimes}
use Rattle.model.specs.Thesis.{Linear, Timing}
use Rattle.theory.specs.Knot.{knot_or_live}
use Rattle.theory.specs.Ends.{Steady, period_steady, given_exact, high_unique}
use Rattle.theory.specs.Reported.{reported_unique}
use Rattle.theory.specs.Same.{period_same, reported_same, schedule_same}
use Rattle.theory.specs.Rate.{rate_steady, steering, rate_steered, rate_plain, steered}
use Rattle.theory.specs.Times.{times_least}
use Rattle.theory.specs.Thesis.{keeps_linear, linear_minimum}
use Rattle.sevens.specs.Sevens.{Bytes}
use Rattle.table.specs.declared.Delay.{Delay}
use Rattle.table.specs.declared.Table.{Table}
use Rattle.table.specs.Limits.{max_delay}
use Rattle.table.specs.Form.{SameRules}
use Rattle.table.specs.Fields.{Within, within_not_bad}
use Rattle.table.specs.Meaning.{delay_meant, shape_of, ranges_of, within_fits}
use Rattle.period.specs.Promise.{Analysis}
use Rattle.rulefile.specs.declared.FileRead.{FileRead}
use Rattle.rulefile.specs.File.{Written}
use Rattle.rates.specs.Rate.{Rated}
use Rattle.refusals.specs.Number.{Told}
use Rattle.rulefile.specs.File.{read_of, written_as, Writes}
use Rattle.period.specs.Promise.{Outcome, outcome, end_of, into, answered_analysis, AnalysisOf}
use Rattle.rates.specs.Rate.{RateVerdict, bad_field, no_name, knot_at, unreached, too_wide, rated, JudgesRate, rate_never_wide, rate_verdict_unique, refused_rate, rated_of, RateOf}
use Rattle.simulation.specs.Simulation.{delays, Answered, SimulationOf}
use Rattle.rulefile.specs.Accepted.{IsFile, accepted_is_file}
use Rattle.rulefile.specs.RoundTrip.{accepted_iff, read_then_written, written_then_read}
use Rattle.simulation.specs.Blanks.{timed_same}
use Rattle.demands.specs.Exists.{Buffers, DelaysAre}
use Rattle.demands.specs.Refused.{Room, knot_refused, flat_refused, refused_only}
use Rattle.demands.specs.Rates.{unreached_refused}
use Rattle.demands.specs.Outcomes.{analysis_answered, rate_answered, simulation_cases}

-- ----------------------------------------------------------------------------------------------------------------------- with all delays given

abbrev pub exact_analysis : ℕ → ℕ → ℕ → Analysis
exact_analysis P Q len = record { refusal = 0; place = 0; exact = true; low = end_of P Q len; high = end_of P Q len }

-- the period P/Q in lowest terms, said to be exact; the reported loop in both loops' buffers; the least schedule in the schedule's
pub record GivenPeriod (t : Table) (D : ℕ → ℕ) (b : Buffers) (o : Outcome) : Type 0 where
  pub P : ℕ
  pub Q : ℕ
  pub period : Period (shape_of t) D P Q
  pub lowest : Lowest P Q
  pub at : ℕ
  pub loop : List ℕ
  pub reported : Reported (shape_of t) D P Q at loop
  pub schedule : List ℕ
  pub least : LeastSchedule (shape_of t) D t.n P Q schedule
  pub handed_back : o ≡ outcome (exact_analysis P Q (length loop)) (into schedule b.schedule) (into loop b.low) (into loop b.high)

module _ (t : Table) (D : ℕ → ℕ) (known : DelaysAre t D) where
  -- then the least and the greatest that a delay may be are the delay
  least_given : (r : ℕ) → r < t.m → (ranges_of t).least r ≡ D r
  least_given r b = ap (λ (d : Delay). least_of (delay_meant d)) (known r b)

  greatest_given : (r : ℕ) → r < t.m → (ranges_of t).greatest r ≡ D r
  greatest_given r b = ap (λ (d : Delay). greatest_of max_delay (delay_meant d)) (known r b)

  filled_given : (E : ℕ → ℕ) → ((r : ℕ) → r < t.m → ((ranges_of t).least r ≤ E r) × (E r ≤ (ranges_of t).greatest r)) → (r : ℕ) → r < t.m → E r ≡ D r
  filled_given E f r b = omega (arith, f r b, least_given r b, greatest_given r b)

  -- so the two ends meet, of whatever is measured
  range_given : (M : Measure) → Steady (shape_of t) M → (a : Range) → RangeOf (shape_of t) (ranges_of t) M a → (a.low_p ≡ a.high_p) × (a.low_q ≡ a.high_q) × (a.exact ≡ true)
  range_given M steady a x =
      let given : Given (shape_of t) (ranges_of t) = λ r b. least_given r b ∙ sym (greatest_given r b) in
      let same = high_unique (shape_of t) (ranges_of t) M steady _ _ _ _ (given_exact (shape_of t) (ranges_of t) M steady given _ _ x.low) x.high in
      (same.0, same.1, ⊎_elim (λ m. m.2) (λ m. absurd (m.0 (same.0, same.1))) x.meet)

  -- THE PERIOD: an analysis that is not refused hands it back
  pub given_period : (b : Buffers) (o : Outcome) → AnalysisOf t b.schedule b.low b.high o → o.result.refusal ≡ 0 → GivenPeriod t D b o
  given_period b o is none =
      let x = analysis_answered t b o is none in
      let a = x.answer in
      let (e, f, g) = range_given (Period (shape_of t)) (period_steady (shape_of t)) a.ends x.answers.ends in
      let low = x.answers.ends.low.attained in
      let loop_low = reported_same (shape_of t) (ranges_of t).least D least_given _ _ _ _ x.answers.low_loop in
      let loop_high = reported_same (shape_of t) (ranges_of t).greatest D greatest_given _ _ _ _ x.answers.high_loop in
      let moved : Reported (shape_of t) D a.ends.low_p a.ends.low_q x.answers.high_at a.high_loop = rw (e, f) loop_high in
      let planned = schedule_same (shape_of t) (ranges_of t).greatest D greatest_given t.n _ _ _ x.answers.schedule in
      record {
        P = a.ends.low_p;
        Q = a.ends.low_q;
        period = period_same (shape_of t) low.D D (filled_given low.D low.fills) _ _ low.given;
        lowest = low.lowest;
        at = x.answers.low_at;
        loop = a.low_loop;
        reported = loop_low;
        schedule = a.schedule;
        least = rw (e, f) planned;
        handed_back = x.result ∙ one_end a e f g (reported_unique (shape_of t) D _ _ _ _ _ _ loop_low moved).1;
      }
    where
      alike : (s low high : List ℕ) (p q p' q' : ℕ) (e : Bool) → p ≡ p' → q ≡ q' → e ≡ true → low ≡ high
          → outcome (record { refusal = 0; place = 0; exact = e; low = end_of p q (length low); high = end_of p' q' (length high) }) (into s b.schedule) (into low b.low) (into high b.high)
          ≡ outcome (exact_analysis p q (length low)) (into s b.schedule) (into low b.low) (into low b.high)
      alike s low high p q p' q' e i j k l = cc

      one_end : (a : Answer) → a.ends.low_p ≡ a.ends.high_p → a.ends.low_q ≡ a.ends.high_q → a.ends.exact ≡ true → a.low_loop ≡ a.high_loop
          → outcome (answered_analysis a) (into a.schedule b.schedule) (into a.low_loop b.low) (into a.high_loop b.high)
          ≡ outcome (exact_analysis a.ends.low_p a.ends.low_q (length a.low_loop)) (into a.schedule b.schedule) (into a.low_loop b.low) (into a.low_loop b.high)
      one_end a e f g h = alike a.schedule a.low_loop a.high_loop a.ends.low_p a.ends.low_q a.ends.high_p a.ends.high_q a.ends.exact e f g h

  -- THE THESIS'S PERIOD: the least P/Q with a linear timing function, and the schedule handed back is such a function
  pub period_linear : (b : Buffers) (o : Outcome) (x : GivenPeriod t D b o)
      → Linear (shape_of t) D x.P x.Q x.schedule × ((p q : ℕ) (Y : List ℕ) → Linear (shape_of t) D p q Y → x.P * q ≤ p * x.Q)
  period_linear b o x = (keeps_linear (shape_of t) D x.P x.Q x.schedule x.least.is_schedule.keeps, linear_minimum (shape_of t) D x.P x.Q x.period)

-- ------------------------------------------------------------------------------------------------------------------------- refused exactly when

pub record LoopWithoutTurn (S : Shape) : Type 0 where
  pub at : ℕ
  pub loop : List ℕ
  pub is_loop : Loop S at loop
  pub no_turn : offsets S loop ≡ 0

knot_turnless : (S : Shape) (u : ℕ) → Knot S u → LoopWithoutTurn S
knot_turnless S u k = record { at = u; loop = k.loop; is_loop = k.is_loop; no_turn = k.no_turn }

turnless_not_live : (S : Shape) → LoopWithoutTurn S → ¬ (Live S)
turnless_not_live S l live = omega (arith, live l.at l.loop l.is_loop, l.no_turn)

module _ (t : Table) (w : Within t) (b : Buffers) (r : Room t b.schedule b.low b.high) (o : Outcome) (is : AnalysisOf t b.schedule b.low b.high o) where
  -- REFUSED EXACTLY WHEN A LOOP HAS NO TURN OR NO LOOP EXISTS
  pub refused_iff : (0 < o.result.refusal) ↔ (LoopWithoutTurn (shape_of t) ⊎ NoLoop (shape_of t))
  refused_iff = (
    λ l. ⊎_map (λ k. knot_turnless (shape_of t) k.0 k.1) (λ none. none) (refused_only t w b.schedule b.low b.high r o is l),
    λ c. ⊎_elim turnless (λ none. let e = ap (λ (z : Outcome). z.result.refusal) (flat_refused t w b.schedule b.low b.high r o is (λ u rs l. absurd (none u rs l)) none) in omega arith) c,
  )
    where
      turnless : LoopWithoutTurn (shape_of t) → 0 < o.result.refusal
      turnless c =
          ⊎_elim (λ k. let e = ap (λ (z : Outcome). z.result.refusal) (knot_refused t w b.schedule b.low b.high r o is k.0 k.1) in omega arith)
          (λ live. absurd (turnless_not_live (shape_of t) c live)) (knot_or_live (shape_of t) t.n (within_fits t w))

-- ------------------------------------------------------------------------------------------------------------------------------------------ rates

abbrev pub exact_rate : ℕ → ℕ → Rated
exact_rate P Q = record { refusal = 0; place = 0; exact = true; low = record { p = P; q = Q }; high = record { p = P; q = Q } }

pub record GivenRate (t : Table) (D : ℕ → ℕ) (v : ℕ) (r : Rated) : Type 0 where
  pub P : ℕ
  pub Q : ℕ
  pub rate : Rate (shape_of t) D v P Q
  pub lowest : Lowest P Q
  pub handed_back : r ≡ exact_rate P Q

-- THE RATE, with all delays given
pub given_rate : (t : Table) (D : ℕ → ℕ) → DelaysAre t D → (v : ℕ) (r : Rated) → RateOf t v r → r.refusal ≡ 0 → GivenRate t D v r
given_rate t D known v r is none =
    let x = rate_answered t v r is none in
    let fits = within_fits t x.within in
    let (e, f, g) = range_given t D known (λ E. Rate (shape_of t) E v) (rate_steady (shape_of t) t.n fits v) x.range x.rates in
    let low = x.rates.low.attained in
    let (h, s) = steering (shape_of t) t.n fits v in
    record {
      P = x.range.low_p;
      Q = x.range.low_q;
      rate = rate_plain (shape_of t) v h s D _ _ (period_same (steered (shape_of t) h) low.D D (filled_given t D known low.D low.fills) _ _ (rate_steered (shape_of t) v h s low.D _ _ low.given));
      lowest = low.lowest;
      handed_back = x.result ∙ alike _ _ _ _ x.range.exact e f g;
    }
  where
    alike : (p q p' q' : ℕ) (e : Bool) → p ≡ p' → q ≡ q' → e ≡ true
        → ◌≡◌ {A = Rated} (record { refusal = 0; place = 0; exact = e; low = record { p = p; q = q }; high = record { p = p'; q = q' } }) (exact_rate p q)
    alike p q p' q' e i j k = cc

-- of a transition of a table within its limits
module _ (t : Table) (w : Within t) (v : ℕ) (b : v < t.n) (r : Rated) (is : RateOf t v r) where
  by_rate_verdict : (x : RateVerdict) → JudgesRate t v x → r ≡ rated_of t.n x
  by_rate_verdict x j = is.result ∙ ap (rated_of t.n) (rate_verdict_unique t v is.verdict x is.judged j)

  -- a loop has no turn: 5, at the lowest transition on such a loop
  pub rate_knot_refused : (u : ℕ) → Knot (shape_of t) u → r ≡ refused_rate 5 u
  rate_knot_refused u k = by_rate_verdict (knot_at u) (w, b, k)

  -- A RATE IS REFUSED EXACTLY WHEN A LOOP HAS NO TURN OR NO LOOP REACHES THE TRANSITION
  pub rate_refused_iff : (0 < r.refusal) ↔ (LoopWithoutTurn (shape_of t) ⊎ NoLoopTo (shape_of t) v)
  rate_refused_iff = (λ l. only l is.verdict is.judged is.result, λ c. ⊎_elim turnless unreachable c)
    where
      only : 0 < r.refusal → (x : RateVerdict) → JudgesRate t v x → r ≡ rated_of t.n x → LoopWithoutTurn (shape_of t) ⊎ NoLoopTo (shape_of t) v
      only l (bad_field k) j e = absurd (within_not_bad t k w j)
      only l no_name j e = absurd (omega (arith, j.1))
      only l (knot_at u) j e = inl (knot_turnless (shape_of t) u j.2)
      only l unreached j e = inr j.3
      only l too_wide j e = absurd (rate_never_wide t w v b j.3.0 j.3.1 j.3.2)
      only l (rated a) j e = absurd (omega (arith, ap (λ (z : Rated). z.refusal) e))

      refused_as : (f p : ℕ) → 0 < f → r ≡ refused_rate f p → 0 < r.refusal
      refused_as f p l e = omega (arith, ap (λ (z : Rated). z.refusal) e)

      turnless : LoopWithoutTurn (shape_of t) → 0 < r.refusal
      turnless c =
          ⊎_elim (λ k. refused_as 5 k.0 (omega arith) (rate_knot_refused k.0 k.1)) (λ live. absurd (turnless_not_live (shape_of t) c live))
          (knot_or_live (shape_of t) t.n (within_fits t w))

      unreachable : NoLoopTo (shape_of t) v → 0 < r.refusal
      unreachable none =
          ⊎_elim (λ k. refused_as 5 k.0 (omega arith) (rate_knot_refused k.0 k.1)) (λ live. refused_as 6 0 (omega arith) (unreached_refused t w v b r is live none))
          (knot_or_live (shape_of t) t.n (within_fits t w))

  -- 6 EXACTLY WHEN EVERY LOOP TURNS AND NONE REACHES THE TRANSITION
  pub six_iff : (r.refusal ≡ 6) ↔ (Live (shape_of t) × NoLoopTo (shape_of t) v)
  six_iff = (
    λ e. ⊎_elim (λ k. absurd (omega (arith, ap (λ (z : Rated). z.refusal) (rate_knot_refused k.0 k.1))))
        (λ live. (live, ⊎_elim (λ c. absurd (turnless_not_live (shape_of t) c live)) (λ none. none) (rate_refused_iff.0 (omega arith))))
        (knot_or_live (shape_of t) t.n (within_fits t w)),
    λ h. ap (λ (z : Rated). z.refusal) (unreached_refused t w v b r is h.0 h.1),
  )

-- ------------------------------------------------------------------------------------------------------------------------------------------ times

-- occurrence i of v stands in place i n + v: there are the thesis's times (2.3), and no timing function (2.1) is earlier anywhere (2.2)
pub record SimulatedTimes (t : Table) (D : ℕ → ℕ) (N : ℕ) (out : List ℕ) : Type 0 where
  pub times : AreTimes (shape_of t) D N t.n (λ i v. get_or out (i * t.n + v) 0)
  pub least : (T : ℕ → ℕ → ℕ) → Timing (shape_of t) D N t.n T → (i v : ℕ) → i < N → v < t.n → get_or out (i * t.n + v) 0 ≤ T i v

-- THE TIMES: a simulation that is not refused leaves them in its buffer
pub simulation_times : (t : Table) (D : ℕ → ℕ) → DelaysAre t D → (N : ℕ) (out₀ : List ℕ) (r : Told) (out : List ℕ) → SimulationOf t N out₀ r out → r.refusal ≡ 0
    → SimulatedTimes t D N out
simulation_times t D known N out₀ r out is none =
    ⊎_elim (λ c. absurd (omega (arith, c.2, c.3.number))) (λ c. held c.0 c.1 c.2) (simulation_cases t N out₀ r out is)
  where
    held : Within t → Live (shape_of t) → Answered t N out₀ r out → SimulatedTimes t D N out
    held w live x =
        let y = timed_same (shape_of t) (delays t) D (least_given t D known) N t.n out₀ out x.times in
        let fits = within_fits t w in
        record {
          times = λ i v a b. record {
            late_enough = λ q h. let e = y.rows i v a b in omega (arith, (y.times i v a b).late_enough q h, y.rows (i - (shape_of t).offset q) ((shape_of t).source q) (omega (arith, h.reached)) (fits q h.is_rule).0);
            no_later = ⊎_elim (λ z. inl (y.rows i v a b ∙ z))
                (λ c. inr (record {
                  rule = c.rule;
                  acts = c.acts;
                  exact = omega (arith, y.rows i v a b, c.exact, y.rows (i - (shape_of t).offset c.rule) ((shape_of t).source c.rule) (omega (arith, c.acts.reached)) (fits c.rule c.acts.is_rule).0);
                }))
                (y.times i v a b).no_later;
          };
          least = λ T timing i v a b. omega (arith, y.rows i v a b, times_least (shape_of t) D N t.n fits live y.T T y.times timing i v a b);
        }

-- ----------------------------------------------------------------------------------------------------------------------------- both ways of a file

-- AN ACCEPTED FILE, READ AND THEN WRITTEN with as much room or more, gives its own bytes and their count, and the rest of the buffer stays
pub file_written_back : (s : List ℕ) → Bytes s → (x : FileRead) → x ≡ read_of s → x.refusal ≡ 0 → (out : List ℕ) → length s ≤ length out → (w : Written) (after : List ℕ)
    → Writes x.table out w after → (w ≡ written_as (length s)) × (after ≡ s ++ drop (length s) out)
file_written_back s bytes x e none out room w after is =
    let f = accepted_is_file s bytes (sym (ap (λ (z : FileRead). z.refusal) e) ∙ none) in
    let g : IsFile s x.table = subst (λ (z : FileRead). IsFile s z.table) (sym e) f in
    read_then_written s x.table out w after bytes ((accepted_iff s x.table bytes).1 g) room is

-- A TABLE WRITTEN, AND THE BYTES WRITTEN READ, is not refused and gives the same n and rules
pub table_read_back : (t : Table) (out : List ℕ) (w : Written) (after : List ℕ) → Writes t out w after → w.refusal ≡ 0 → (x : FileRead) → x ≡ read_of (take w.count after)
    → (x.refusal ≡ 0) × SameRules t x.table
table_read_back t out w after is none x e =
    let y = written_then_read t out w after is none in (ap (λ (z : FileRead). z.refusal) e ∙ y.accepted, subst (λ (z : FileRead). SameRules t z.table) (sym e) y.same)
