-- THAT THE DEMANDS ARE NOT EMPTY: of Demand1 to Demand3 and Unused the theorems named below are applied to blocks worked by hand (worked/Blocks). A hypothesis of
-- theirs that no table meets would be refused here.
--
--   P1                  0>1/0/3, 1>0/1/4: all delays given
--   P3                  0>1/0/3, 1>0/1/?: P1 with a blank; p3_filled: filled with 4 it is P1
--   P7, P9              0>0/0/0: a loop without a turn; and no rule at all
--   lent                three buffers of three places
--
--   p1_answers, p3_answers     the laps' answers (crate laps) are those of the tables
--   analysis_p1         THE PERIOD of P1 is 7/1, with its loop and its schedule; some_p1: there is an outcome, and it is this; given_p1: as Demand2 says it
--   refused_p7, refused_p9     the two lists that are refused; kept_p7: as Demand1 says it
--   analysis_p3         the ends of P3 are 3/1 and 1000003/1, not exact
--   filling_p3          and filling the blank moves both inward, to those of P1
--   rate_p1, rate_p3, filling_rate_p3     the same of the rate of transition 0; given_rate_p1: as Demand2 says it
--   simulation_p1       the times of three occurrences of P1; times_p1: as Demand2 says them
--   text_p3             what is printed for the file of P3; filling_text_p3: and with the blank filled
--   written_back, read_back    the file of P1 read and then written, and P1 written and then read
--   unused_p1           P1 with other contents in a place past its rules
use Rattle.std.specs.Prelude.{◌≡◌, refl, true, false, Result, List, [], ◌∷◌, ◌++◌, ℕ, zero, suc, ◌+◌, ◌≤◌, ◌<◌, length, get_or, take, drop}
use Rattle.std.proofs.Common.{sym, ap, ◌∙◌, subst, inl, inr, arith}
use Rattle.std.proofs.Math.Path.{subst⁻¹, fun_ext}
use Rattle.std.proofs.lemmas.List.{length-replicate}
use Rattle.model.specs.Shape.{Shape}
use Rattle.model.specs.Loop.{Loop, NoLoop, Live}
use Rattle.model.specs.Knot.{Knot}
use Rattle.model.specs.Filling.{Ranges}
use Rattle.model.specs.Answer.{Answer, Answers}
use Rattle.model.specs.Times.{Timed}
use Rattle.model.specs.Ends.{Range}
use Rattle.model.specs.Period.{Period}
use Rattle.model.specs.Schedule.{Keeps}
use Rattle.model.specs.Rate.{Rate, Rates}
use Rattle.theory.specs.Period.{certified}
use Rattle.theory.specs.Ends.{range_is}
use Rattle.theory.specs.Rate.{rate_steady}
use Rattle.theory.specs.Rank.{ZeroRanks, ranks_live}
use Rattle.theory.specs.Times.{timed_unique}
use Rattle.sevens.specs.Sevens.{code_in, code_of, Bytes}
use Rattle.table.specs.declared.Delay.TheVariants.{Known, Unknown}
use Rattle.table.specs.declared.Table.{Table}
use Rattle.table.specs.Form.{unused_rule, rule_of, Unused, SameRules, all_unused}
use Rattle.table.specs.Fields.{RuleWithin, Within}
use Rattle.table.specs.Meaning.{shape_of, ranges_of, within_fits}
use Rattle.rulefile.specs.declared.FileRead.{FileRead}
use Rattle.rulefile.specs.File.{Written}
use Rattle.rulefile.specs.File.{rule_bytes, rules_bytes, file_of, read_of, accepted_read, written_as, Writes}
use Rattle.rulefile.specs.RoundTrip.{file_accepted}
use Rattle.engine.specs.Verdict.{Verdict, found, Judges, proper, never_wide_at, verdict_unique}
use Rattle.refusals.specs.declared.Refusal.{Refusal}
use Rattle.period.specs.declared.Analysis.{Analysis}
use Rattle.period.specs.Promise.{Outcome, outcome, told_analysis, end_of, refused_analysis, outcome_of, AnalysisOf}
use Rattle.rates.specs.Rate.{Rated}
use Rattle.rates.specs.Rate.{RateVerdict, rated, JudgesRate, rate_never_wide, rate_verdict_unique, answered_rate, rated_of, RateOf}
use Rattle.refusals.specs.Number.{Told}
use Rattle.simulation.specs.Simulation.{delays, NoBlank, SimulationOf}
use Rattle.text.specs.Text.{verdict_text, TableText, ReadText, FileText}
use Rattle.laps.specs.Lists.{lowest_one}
use Rattle.laps.specs.Lists as laps
use Rattle.laps.specs.Laps.{lap_1, lap_3, line_1, line_3}
use Rattle.worked.specs.Blocks.{rule, P1, P3, P7, P9}
use Rattle.demands.specs.Exists.{Buffers, buffers, DelaysAre, analysis_exists}
use Rattle.demands.specs.Filled.{FilledRule, Filled, shape_filled}
use Rattle.demands.specs.Refused.{Room}
use Rattle.demands.specs.Demand1.{analysis_refused}
use Rattle.demands.specs.Refused.{knot_refused, flat_refused}
use Rattle.demands.specs.Demand2.{exact_analysis, GivenPeriod, given_period, exact_rate, GivenRate, given_rate, SimulatedTimes, simulation_times, file_written_back, table_read_back}
use Rattle.demands.specs.Demand3.{OutcomesInward, analysis_inward, RatesInward, rate_inward, InwardText, text_inward}
use Rattle.demands.specs.Unused.{analysis_unused}

-- ------------------------------------------------------------------------------------------------------------------------------------ the blocks

abbrev pub lent : Buffers
lent = buffers (9 ∷ 9 ∷ 9 ∷ []) (9 ∷ 9 ∷ 9 ∷ []) (9 ∷ 9 ∷ 9 ∷ [])

p1_within : Within P1
p1_within = record { n_low = omega arith; n_high = omega arith; m_high = omega arith; rule = each }
  where
    each : (r : ℕ) → r < P1.m → RuleWithin P1.n (get_or P1.rules r unused_rule)
    each zero b = record { source = omega arith; target = omega arith; offset = omega arith; delay = omega arith }
    each (suc zero) b = record { source = omega arith; target = omega arith; offset = omega arith; delay = omega arith }
    each (suc (suc r)) b = absurd (omega arith)

p3_within : Within P3
p3_within = record { n_low = omega arith; n_high = omega arith; m_high = omega arith; rule = each }
  where
    each : (r : ℕ) → r < P3.m → RuleWithin P3.n (get_or P3.rules r unused_rule)
    each zero b = record { source = omega arith; target = omega arith; offset = omega arith; delay = omega arith }
    each (suc zero) b = record { source = omega arith; target = omega arith; offset = omega arith; delay = tt }
    each (suc (suc r)) b = absurd (omega arith)

-- THE BLANK OF P3 FILLED WITH 4 GIVES P1
pub p3_filled : Filled P3 P1
p3_filled = record { n_same = refl; m_same = refl; rules = each }
  where
    each : (r : ℕ) → r < P3.m → FilledRule (rule_of P3 r) (rule_of P1 r)
    each zero b = record { source = refl; target = refl; offset = refl; delay = refl }
    each (suc zero) b = record { source = refl; target = refl; offset = refl; delay = omega arith }
    each (suc (suc r)) b = absurd (omega arith)

-- its two rules, with any delays, turn: transition 1 ranks above transition 0
p1_ranks : ZeroRanks (shape_of P1) (0 ∷ 1 ∷ [])
p1_ranks zero b e = omega arith
p1_ranks (suc zero) b e = absurd (omega arith)
p1_ranks (suc (suc r)) b e = absurd (omega arith)

p1_live : Live (shape_of P1)
p1_live = ranks_live (shape_of P1) (0 ∷ 1 ∷ []) p1_ranks

p1_loop : Loop (shape_of P1) 0 (0 ∷ 1 ∷ [])
p1_loop = omega arith

p3_live : Live (shape_of P3)
p3_live = subst⁻¹ Live (shape_filled P3 P1 p3_filled) p1_live

p3_loop : Loop (shape_of P3) 0 (0 ∷ 1 ∷ [])
p3_loop = omega arith

-- the delays of P1
unfoldable pub delays_p1 : ℕ → ℕ
delays_p1 zero = 3
delays_p1 (suc r) = 4

p1_known : DelaysAre P1 delays_p1
unfolding delays_p1
p1_known zero b = refl
p1_known (suc zero) b = refl
p1_known (suc (suc r)) b = absurd (omega arith)

-- -------------------------------------------------------------------------------------------------------------------- the laps' rules and the tables

shape_by : (S T : Shape) → S.rules ≡ T.rules → ((r : ℕ) → S.source r ≡ T.source r) → ((r : ℕ) → S.target r ≡ T.target r) → ((r : ℕ) → S.offset r ≡ T.offset r) → S ≡ T
shape_by S T e f g h i = record { rules = e i; source = fun_ext f i; target = fun_ext g i; offset = fun_ext h i }

-- functions that agree at 0, at 1 and further on
by_two : (f g : ℕ → ℕ) → f 0 ≡ g 0 → f 1 ≡ g 1 → ((r : ℕ) → f (suc (suc r)) ≡ g (suc (suc r))) → (r : ℕ) → f r ≡ g r
by_two f g a b h zero = a
by_two f g a b h (suc zero) = b
by_two f g a b h (suc (suc r)) = h r

ranges_by : (K L : Ranges) → ((r : ℕ) → K.least r ≡ L.least r) → ((r : ℕ) → K.greatest r ≡ L.greatest r) → K ≡ L
ranges_by K L f g i = record { least = fun_ext f i; greatest = fun_ext g i }

p1_shape : laps.shape_of lap_1.rules ≡ shape_of P1
p1_shape =
    let S = laps.shape_of lap_1.rules in
    let T = shape_of P1 in
    shape_by S T refl (by_two S.source T.source refl refl (λ r. refl)) (by_two S.target T.target refl refl (λ r. refl)) (by_two S.offset T.offset refl refl (λ r. refl))

p1_ranges : laps.ranges_of lap_1.rules ≡ ranges_of P1
p1_ranges =
    let K = laps.ranges_of lap_1.rules in
    let L = ranges_of P1 in
    ranges_by K L (by_two K.least L.least refl refl (λ r. refl)) (by_two K.greatest L.greatest refl refl (λ r. refl))

abbrev pub answer_1 : Answer
answer_1 = record { ends = record { low_p = 7; low_q = 1; high_p = 7; high_q = 1; exact = true }; low_loop = 0 ∷ 1 ∷ []; high_loop = 0 ∷ 1 ∷ []; schedule = 0 ∷ 3 ∷ [] }

pub p1_answers : Answers (shape_of P1) (ranges_of P1) 2 answer_1
p1_answers =
    subst (λ (K : Ranges). Answers (shape_of P1) K 2 answer_1) p1_ranges
    (subst (λ (S : Shape). Answers S (laps.ranges_of lap_1.rules) 2 answer_1) p1_shape line_1.0)

p1_judged : Judges P1 (found answer_1)
p1_judged = (p1_within, p1_live, p1_answers, never_wide_at P1 p1_within answer_1 p1_answers)

-- --------------------------------------------------------------------------------------------------------------------------------- the theorems

-- an analysis of a table on which a verdict is known, with these buffers lent
lent_verdict : (t : Table) (v : Verdict) → Judges t v → (o : Outcome) → AnalysisOf t lent.schedule lent.low lent.high o → o ≡ outcome_of t.n v lent.schedule lent.low lent.high
lent_verdict t v j o is = is.result ∙ ap (λ z. outcome_of t.n z lent.schedule lent.low lent.high) (verdict_unique t is.verdict v is.judged j)

-- THE PERIOD OF P1, its loop in two buffers and its schedule in the third; the third places stay
pub analysis_p1 : (o : Outcome) → AnalysisOf P1 lent.schedule lent.low lent.high o
    → o ≡ outcome (exact_analysis 7 1 2) (0 ∷ 3 ∷ 9 ∷ []) (0 ∷ 1 ∷ 9 ∷ []) (0 ∷ 1 ∷ 9 ∷ [])
analysis_p1 o is = lent_verdict P1 (found answer_1) p1_judged o is

-- there is an outcome, and it is this one
pub some_p1 : (r : Result Analysis Refusal) × (after : Buffers) × AnalysisOf P1 lent.schedule lent.low lent.high (outcome (told_analysis r) after.schedule after.low after.high)
    × (outcome (told_analysis r) after.schedule after.low after.high ≡ outcome (exact_analysis 7 1 2) (0 ∷ 3 ∷ 9 ∷ []) (0 ∷ 1 ∷ 9 ∷ []) (0 ∷ 1 ∷ 9 ∷ []))
some_p1 = let (r, after, is) = analysis_exists P1 lent in (r, after, is, analysis_p1 _ is)

pub given_p1 : (o : Outcome) → AnalysisOf P1 lent.schedule lent.low lent.high o → GivenPeriod P1 delays_p1 lent o
given_p1 o is = given_period P1 delays_p1 p1_known lent o is (ap (λ (z : Outcome). z.result.refusal) (analysis_p1 o is))

-- P3 HAS TWO ENDS
abbrev pub answer_3 : Answer
answer_3 = record { ends = record { low_p = 3; low_q = 1; high_p = 1000003; high_q = 1; exact = false }; low_loop = 0 ∷ 1 ∷ []; high_loop = 0 ∷ 1 ∷ []; schedule = 0 ∷ 3 ∷ [] }

p3_shape : laps.shape_of lap_3.rules ≡ shape_of P3
p3_shape =
    let S = laps.shape_of lap_3.rules in
    let T = shape_of P3 in
    shape_by S T refl (by_two S.source T.source refl refl (λ r. refl)) (by_two S.target T.target refl refl (λ r. refl)) (by_two S.offset T.offset refl refl (λ r. refl))

p3_ranges : laps.ranges_of lap_3.rules ≡ ranges_of P3
p3_ranges =
    let K = laps.ranges_of lap_3.rules in
    let L = ranges_of P3 in
    ranges_by K L (by_two K.least L.least refl refl (λ r. refl)) (by_two K.greatest L.greatest refl refl (λ r. refl))

pub p3_answers : Answers (shape_of P3) (ranges_of P3) 2 answer_3
p3_answers =
    subst (λ (K : Ranges). Answers (shape_of P3) K 2 answer_3) p3_ranges
    (subst (λ (S : Shape). Answers S (laps.ranges_of lap_3.rules) 2 answer_3) p3_shape line_3.0)

p3_judged : Judges P3 (found answer_3)
p3_judged = (p3_within, p3_live, p3_answers, never_wide_at P3 p3_within answer_3 p3_answers)

pub analysis_p3 : (o : Outcome) → AnalysisOf P3 lent.schedule lent.low lent.high o
    → o ≡ outcome (record { refusal = 0; place = 0; exact = false; low = end_of 3 1 2; high = end_of 1000003 1 2 }) (0 ∷ 3 ∷ 9 ∷ []) (0 ∷ 1 ∷ 9 ∷ []) (0 ∷ 1 ∷ 9 ∷ [])
analysis_p3 o is = lent_verdict P3 (found answer_3) p3_judged o is

-- FILLING ITS BLANK
pub filling_p3 : (o o' : Outcome) → AnalysisOf P3 lent.schedule lent.low lent.high o → AnalysisOf P1 lent.schedule lent.low lent.high o' → OutcomesInward o o'
filling_p3 o o' x y = analysis_inward P3 P1 p3_filled lent o o' x y

-- A LOOP WITHOUT A TURN
p7_within : Within P7
p7_within = record { n_low = omega arith; n_high = omega arith; m_high = omega arith; rule = each }
  where
    each : (r : ℕ) → r < P7.m → RuleWithin P7.n (get_or P7.rules r unused_rule)
    each zero b = record { source = omega arith; target = omega arith; offset = omega arith; delay = omega arith }
    each (suc r) b = absurd (omega arith)

p7_knot : Knot (shape_of P7) 0
p7_knot = record { loop = 0 ∷ []; is_loop = omega arith; no_turn = refl; lowest = λ w qs l e. omega arith }

p7_room : Room P7 lent.schedule lent.low lent.high
p7_room = omega arith

pub refused_p7 : (o : Outcome) → AnalysisOf P7 lent.schedule lent.low lent.high o → o ≡ outcome (refused_analysis 5 0) lent.schedule lent.low lent.high
refused_p7 o is = knot_refused P7 p7_within lent.schedule lent.low lent.high p7_room o is 0 p7_knot

pub kept_p7 : (o : Outcome) → AnalysisOf P7 lent.schedule lent.low lent.high o → o ≡ outcome (refused_analysis o.result.refusal o.result.place) lent.schedule lent.low lent.high
kept_p7 o is = let e = ap (λ (z : Outcome). z.result.refusal) (refused_p7 o is) in analysis_refused P7 lent o is (omega arith)

-- NO RULE AT ALL
p9_within : Within P9
p9_within = record { n_low = omega arith; n_high = omega arith; m_high = omega arith; rule = λ r b. absurd (omega arith) }

p9_none : NoLoop (shape_of P9)
p9_none u [] l = absurd (omega (arith, l.some_rule))
p9_none u (r ∷ rs) l = absurd (omega (arith, l.closed.0))

p9_room : Room P9 lent.schedule lent.low lent.high
p9_room = omega arith

pub refused_p9 : (o : Outcome) → AnalysisOf P9 lent.schedule lent.low lent.high o → o ≡ outcome (refused_analysis 6 0) lent.schedule lent.low lent.high
refused_p9 o is = flat_refused P9 p9_within lent.schedule lent.low lent.high p9_room o is (λ u rs l. absurd (p9_none u rs l)) p9_none

-- ------------------------------------------------------------------------------------------------------------------------------------ the rates

-- a schedule and the ring prove the period, read from transition 0, with any delays of P1's rules
ring_period : (D : ℕ → ℕ) (P : ℕ) → D 0 ≡ 3 → 3 + D 1 ≡ P → Period (shape_of P1) D P 1
ring_period D P e f = certified (shape_of P1) D P 1 (0 ∷ 3 ∷ []) keeps 0 (0 ∷ 1 ∷ []) (omega arith) p1_loop (omega arith) (omega (arith, e, f))
  where
    keeps : Keeps (shape_of P1) D P 1 (0 ∷ 3 ∷ [])
    keeps zero b = omega (arith, e)
    keeps (suc zero) b = omega (arith, f)
    keeps (suc (suc r)) b = absurd (omega arith)

ring_rate : (D : ℕ → ℕ) (P : ℕ) → D 0 ≡ 3 → 3 + D 1 ≡ P → Rate (shape_of P1) D 0 P 1
ring_rate D P e f =
    record {
      q_pos = omega arith;
      at = 0;
      loop = 0 ∷ 1 ∷ [];
      is_loop_to = record { is_loop = p1_loop; reaches = record { way = []; leads = refl } };
      turns = omega arith;
      attained = omega (arith, e, f);
      highest = λ u rs l. (ring_period D P e f).highest u rs l.is_loop;
    }

by_rate_verdict : (t : Table) (v : ℕ) (x : RateVerdict) → JudgesRate t v x → (r : Rated) → RateOf t v r → r ≡ rated_of t.n x
by_rate_verdict t v x j r is = is.result ∙ ap (rated_of t.n) (rate_verdict_unique t v is.verdict x is.judged j)

abbrev range_1 : Range
range_1 = record { low_p = 7; low_q = 1; high_p = 7; high_q = 1; exact = true }

p1_rates : Rates (shape_of P1) (ranges_of P1) 0 range_1
p1_rates =
    range_is (shape_of P1) (ranges_of P1) (λ D. Rate (shape_of P1) D 0) (rate_steady (shape_of P1) 2 (within_fits P1 p1_within) 0) (proper P1) 7 1 7 1 true
    (ring_rate (ranges_of P1).least 7 refl refl) (lowest_one 7) (ring_rate (ranges_of P1).greatest 7 refl refl) (lowest_one 7) (inl (refl, refl, refl))

-- THE RATE OF TRANSITION 0 OF P1 is the period
pub rate_p1 : (r : Rated) → RateOf P1 0 r → r ≡ exact_rate 7 1
rate_p1 r is = by_rate_verdict P1 0 (rated range_1) (p1_within, omega arith, p1_live, p1_rates, rate_never_wide P1 p1_within 0 (omega arith) range_1 p1_rates) r is

pub given_rate_p1 : (r : Rated) → RateOf P1 0 r → GivenRate P1 delays_p1 0 r
given_rate_p1 r is = given_rate P1 delays_p1 p1_known 0 r is (ap (λ (z : Rated). z.refusal) (rate_p1 r is))

abbrev range_3 : Range
range_3 = record { low_p = 3; low_q = 1; high_p = 1000003; high_q = 1; exact = false }

p3_rates : Rates (shape_of P3) (ranges_of P3) 0 range_3
p3_rates =
    range_is (shape_of P3) (ranges_of P3) (λ D. Rate (shape_of P3) D 0) (rate_steady (shape_of P3) 2 (within_fits P3 p3_within) 0) (proper P3) 3 1 1000003 1 false
    (subst⁻¹ (λ (S : Shape). Rate S (ranges_of P3).least 0 3 1) same (ring_rate (ranges_of P3).least 3 refl refl)) (lowest_one 3)
    (subst⁻¹ (λ (S : Shape). Rate S (ranges_of P3).greatest 0 1000003 1) same (ring_rate (ranges_of P3).greatest 1000003 refl refl)) (lowest_one 1000003)
    (inr (λ e. omega (arith, e.0), refl))
  where
    same : shape_of P3 ≡ shape_of P1
    same = shape_filled P3 P1 p3_filled

-- ITS RATE IN P3
pub rate_p3 : (r : Rated) → RateOf P3 0 r → r ≡ answered_rate range_3
rate_p3 r is = by_rate_verdict P3 0 (rated range_3) (p3_within, omega arith, p3_live, p3_rates, rate_never_wide P3 p3_within 0 (omega arith) range_3 p3_rates) r is

pub filling_rate_p3 : (r r' : Rated) → RateOf P3 0 r → RateOf P1 0 r' → RatesInward r r'
filling_rate_p3 r r' x y = rate_inward P3 P1 p3_filled 0 r r' x y

-- ------------------------------------------------------------------------------------------------------------------------------------ the times

abbrev pub zeros : List ℕ
zeros = 0 ∷ 0 ∷ 0 ∷ 0 ∷ 0 ∷ 0 ∷ []

unknown_not : (d : ℕ) → ¬ (Known d ≡ Unknown)
unknown_not d e = let z : ◌≡◌ {A = ℕ} 0 1 = cc in omega arith

p1_unblank : NoBlank P1
p1_unblank zero b = let e : Known 3 ≡ Unknown = b.1 in unknown_not 3 e
p1_unblank (suc zero) b = let e : Known 4 ≡ Unknown = b.1 in unknown_not 4 e
p1_unblank (suc (suc r)) b = absurd (omega (arith, b.0))

p1_times : Timed (shape_of P1) (ranges_of P1).least 3 2 zeros (0 ∷ 3 ∷ 7 ∷ 10 ∷ 14 ∷ 17 ∷ [])
p1_times =
    subst (λ (K : Ranges). Timed (shape_of P1) K.least 3 2 zeros (0 ∷ 3 ∷ 7 ∷ 10 ∷ 14 ∷ 17 ∷ [])) p1_ranges
    (subst (λ (S : Shape). Timed S (laps.ranges_of lap_1.rules).least 3 2 zeros (0 ∷ 3 ∷ 7 ∷ 10 ∷ 14 ∷ 17 ∷ [])) p1_shape line_1.1)

-- THREE OCCURRENCES OF P1, simulated
pub simulation_p1 : (r : Told) (out : List ℕ) → SimulationOf P1 3 zeros r out → (r.refusal ≡ 0) × (out ≡ 0 ∷ 3 ∷ 7 ∷ 10 ∷ 14 ∷ 17 ∷ [])
simulation_p1 r out x =
    let a = x.simulated p1_within (omega arith, omega arith) p1_unblank (omega arith) p1_live in
    (a.number, timed_unique (shape_of P1) (delays P1) 3 2 (within_fits P1 p1_within) p1_live (omega arith) zeros out (0 ∷ 3 ∷ 7 ∷ 10 ∷ 14 ∷ 17 ∷ []) a.times p1_times)

pub times_p1 : (r : Told) (out : List ℕ) → SimulationOf P1 3 zeros r out → SimulatedTimes P1 delays_p1 3 out
times_p1 r out x = simulation_times P1 delays_p1 p1_known 3 zeros r out x (simulation_p1 r out x).0

-- ------------------------------------------------------------------------------------------------------------------------------------ the files

p1_unused : Unused P1
p1_unused = record { places = ap (λ k. suc (suc k)) (length-replicate 2046 unused_rule); unused = each }
  where
    each : (r : ℕ) → P1.m ≤ r → rule_of P1 r ≡ unused_rule
    each zero b = absurd (omega arith)
    each (suc zero) b = absurd (omega arith)
    each (suc (suc r)) b = all_unused 2046 r

p3_unused : Unused P3
p3_unused = record { places = ap (λ k. suc (suc k)) (length-replicate 2046 unused_rule); unused = each }
  where
    each : (r : ℕ) → P3.m ≤ r → rule_of P3 r ≡ unused_rule
    each zero b = absurd (omega arith)
    each (suc zero) b = absurd (omega arith)
    each (suc (suc r)) b = all_unused 2046 r

-- WHAT IS PRINTED FOR THE FILE OF P3, and for that of P1
pub text_p3 : (x : List ℕ) → FileText (file_of P3) x → x ≡ verdict_text (found answer_3)
text_p3 x is =
    let y : TableText P3 x = (subst (λ (z : FileRead). ReadText z x) (file_accepted P3 p3_within p3_unused) is).accepted (omega arith) in
    y.result ∙ ap verdict_text (verdict_unique P3 y.verdict (found answer_3) y.judged p3_judged)

pub filling_text_p3 : (x x' : List ℕ) → FileText (file_of P3) x → FileText (file_of P1) x' → InwardText x x'
filling_text_p3 x x' is is' =
    text_inward (file_of P3) (file_of P1) P3 P1 (file_accepted P3 p3_within p3_unused) (file_accepted P1 p1_within p1_unused) p3_filled x x' is is'

-- THE BYTES OF THE FILE OF P1, read and then written
abbrev pub bytes_1 : List ℕ
bytes_1 = 2 ∷ 2 ∷ 0 ∷ 1 ∷ 0 ∷ 4 ∷ 1 ∷ 0 ∷ 1 ∷ 5 ∷ []

pub file_p1 : file_of P1 ≡ bytes_1
unfolding file_of rules_bytes rule_bytes code_of code_in
file_p1 = refl

p1_bytes : Bytes bytes_1
p1_bytes zero = omega arith
p1_bytes (suc zero) = omega arith
p1_bytes (suc (suc zero)) = omega arith
p1_bytes (suc (suc (suc zero))) = omega arith
p1_bytes (suc (suc (suc (suc zero)))) = omega arith
p1_bytes (suc (suc (suc (suc (suc zero))))) = omega arith
p1_bytes (suc (suc (suc (suc (suc (suc zero)))))) = omega arith
p1_bytes (suc (suc (suc (suc (suc (suc (suc zero))))))) = omega arith
p1_bytes (suc (suc (suc (suc (suc (suc (suc (suc zero)))))))) = omega arith
p1_bytes (suc (suc (suc (suc (suc (suc (suc (suc (suc zero))))))))) = omega arith
p1_bytes (suc (suc (suc (suc (suc (suc (suc (suc (suc (suc k)))))))))) = omega arith

p1_read : read_of bytes_1 ≡ accepted_read P1
p1_read = ap read_of (sym file_p1) ∙ file_accepted P1 p1_within p1_unused

pub written_back : (out : List ℕ) → 10 ≤ length out → (w : Written) (after : List ℕ) → Writes P1 out w after → (w ≡ written_as 10) × (after ≡ bytes_1 ++ drop 10 out)
written_back out room w after is = file_written_back bytes_1 p1_bytes (accepted_read P1) (sym p1_read) refl out room w after is

-- THE FILE OF P1 READ BACK, from where it was written
pub read_back : (out : List ℕ) (w : Written) (after : List ℕ) → Writes P1 out w after → w.refusal ≡ 0 → SameRules P1 (read_of (take w.count after)).table
read_back out w after is none = (table_read_back P1 out w after is none (read_of (take w.count after)) refl).1

-- ------------------------------------------------------------------------------------------------------------------------------- unused places

-- P1 with other contents past its rules
abbrev pub littered : Table
littered = record { n = 2; m = 2; rules = rule 0 1 0 (Known 3) ∷ rule 1 0 1 (Known 4) ∷ rule 1 1 7 (Known 9) ∷ [] }

littered_same : SameRules P1 littered
littered_same = record { same_n = refl; same_m = refl; same_rule = each }
  where
    each : (r : ℕ) → r < P1.m → rule_of littered r ≡ rule_of P1 r
    each zero b = refl
    each (suc zero) b = refl
    each (suc (suc r)) b = absurd (omega arith)

pub unused_p1 : (o : Outcome) → AnalysisOf P1 lent.schedule lent.low lent.high o → AnalysisOf littered lent.schedule lent.low lent.high o
unused_p1 o is = analysis_unused P1 littered littered_same lent o is
