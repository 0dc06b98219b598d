-- DEMAND 1 FOR THE CALLS THAT C HAS (crate `cperiod`): each comes back with one outcome for whatever is handed in; a refusal, a number above 0, hands back number
-- and place, zeros for all else, and every lent buffer as it was.
--
--   exported call           there is an outcome        only one (cperiod/Promise, Bids)    refused
--   an analysis             analysis_from_exists       analysis_from_unique                analysis_from_refused
--   a rate                  rate_from_exists           rate_from_unique                    rate_from_refused
--   writing                 writing_from_exists        writing_from_unique                 writing_from_refused
--   a simulation            simulation_from_exists     simulation_from_unique              simulation_from_refused
--   the report              report_from_exists         report_from_unique                  report_from_refused
--   two bids                bids_from_exists           bids_from_unique                    bids_from_refused
--   reading into columns    an equation (read_into)                                         columns_refused (Columns)
--   a number                an equation (number_in)                                         number_in_refused
use Rattle.std.specs.Prelude.{◌≡◌, refl, List, ◌++◌, ℕ, ◌<◌, length, drop}
use Rattle.std.proofs.Common.{ap, ◌∙◌, subst, arith}
use Rattle.std.proofs.Math.Path.{subst⁻¹}
use Rattle.std.proofs.Math.Logic.{by_cases}
use Rattle.std.proofs.Math.Decide.{dec_lt}
use Rattle.sevens.specs.Sevens.{number_of, refused}
use Rattle.table.specs.declared.Table.{Table}
use Rattle.rates.specs.Rate.{Rated}
use Rattle.rulefile.specs.File.{Written}
use Rattle.refusals.specs.Number.{Told, told}
use Rattle.rulefile.specs.File.{groups, refused_write, written_as, told_written, Writes}
use Rattle.period.specs.Promise.{Outcome, outcome, refused_analysis, told_analysis, AnalysisOf}
use Rattle.rates.specs.Rate.{refused_rate, told_rate, RateOf}
use Rattle.simulation.specs.Simulation.{SimulationOf}
use Rattle.bids.specs.Promise.{File}
use Rattle.handed.specs.Columns.{Handed}
use Rattle.cperiod.specs.declared.PeriodAnalysis.{PeriodAnalysis}
use Rattle.cperiod.specs.declared.PeriodRate.{PeriodRate}
use Rattle.cperiod.specs.declared.PeriodCount.{PeriodCount}
use Rattle.cperiod.specs.declared.PeriodStatus.{PeriodStatus}
use Rattle.cperiod.specs.declared.PeriodBids.{PeriodBids}
use Rattle.cperiod.specs.Promise.{AskedOf, flat_analysis_of, flat_rate_of, flat_count, flat_status, unsimulated, AnalysisFrom, RateFrom, WritingFrom, SimulationFrom, ReportFrom, flat_number, number_in}
use Rattle.cperiod.specs.Bids.{flat_bids, BidsFrom, bids_made}
use Rattle.demands.specs.Exists.{Buffers, buffers, analysis_exists, rated_exists, simulation_exists, writes_exists, better_exists, text_exists}
use Rattle.demands.specs.Demand1.{limited_refused, writing_refused, analysis_refused, rate_refused, simulation_refused, better_refused}

-- a refusal of what was handed in, or of what was asked of the table: what both say holds
asked_refused : {C : Type 0} (h : Handed) (R : ℕ → ℕ → Type 0) (A : Table → Type 0) → AskedOf h R A → (R h.refusal h.place → C) → (A h.table → C) → C
asked_refused h R A a f g = by_cases (dec_lt 0 h.refusal) (λ l. f (a.refused l)) (λ l. g (a.answered (omega arith)))

-- an answer to whatever is handed in, from a refusal and an answer for every table
asked_exists : {C : Type 0} (h : Handed) (R : ℕ → ℕ → C → Type 0) (A : Table → C → Type 0) → ((f p : ℕ) → (x : C) × R f p x) → ((t : Table) → (x : C) × A t x)
    → (x : C) × AskedOf h (λ f p. R f p x) (λ t. A t x)
asked_exists h R A f g =
    by_cases (dec_lt 0 h.refusal)
    (λ l. let (x, y) = f h.refusal h.place in (x, record { refused = λ m. y; answered = λ e. absurd (omega arith) }))
    (λ l. let (x, y) = g h.table in (x, record { refused = λ m. absurd (omega arith); answered = λ e. y }))

-- ----------------------------------------------------------------------------------------------------------------------------------- an analysis

pub analysis_from_exists : (h : Handed) (x l g : List ℕ) → (r : PeriodAnalysis) × (left : Buffers) × AnalysisFrom h x l g r left.schedule left.low left.high
analysis_from_exists h x l g =
    let (o, y) = asked_exists h (λ f p (z : Outcome). z ≡ outcome (refused_analysis f p) x l g) (λ t z. AnalysisOf t x l g z)
    (λ f p. (outcome (refused_analysis f p) x l g, refl))
    (λ t. let (r, after, y) = analysis_exists t (buffers x l g) in (outcome (told_analysis r) after.schedule after.low after.high, y)) in
    (flat_analysis_of o.result, buffers o.schedule o.low o.high, record { analysis = o.result; result = refl; asked = y })

pub analysis_from_refused : (h : Handed) (x l g : List ℕ) (r : PeriodAnalysis) (x' l' g' : List ℕ) → AnalysisFrom h x l g r x' l' g' → 0 < r.refusal
    → (r ≡ flat_analysis_of (refused_analysis r.refusal r.place)) × (x' ≡ x) × (l' ≡ l) × (g' ≡ g)
analysis_from_refused h x l g r x' l' g' a b = (
  subst⁻¹ (λ (z : PeriodAnalysis). z ≡ flat_analysis_of (refused_analysis z.refusal z.place)) a.result (ap (λ (o : Outcome). flat_analysis_of o.result) one),
  ap (λ (o : Outcome). o.schedule) one,
  ap (λ (o : Outcome). o.low) one,
  ap (λ (o : Outcome). o.high) one,
)
  where
    one : outcome a.analysis x' l' g' ≡ outcome (refused_analysis a.analysis.refusal a.analysis.place) x l g
    one =
        asked_refused h _ _ a.asked
        (λ e. subst⁻¹ (λ (o : Outcome). o ≡ outcome (refused_analysis o.result.refusal o.result.place) x l g) e refl)
        (λ y. analysis_refused h.table (buffers x l g) _ y (subst (λ (z : PeriodAnalysis). 0 < z.refusal) a.result b))

-- ---------------------------------------------------------------------------------------------------------------------------------------- a rate

pub rate_from_exists : (h : Handed) (v : ℕ) → (r : PeriodRate) × RateFrom h v r
rate_from_exists h v =
    let (a, x) = asked_exists h (λ f p (z : Rated). z ≡ refused_rate f p) (λ t z. RateOf t v z) (λ f p. (refused_rate f p, refl))
    (λ t. let (r, y) = rated_exists t v in (told_rate r, y)) in
    (flat_rate_of a, record { rate = a; result = refl; asked = x })

pub rate_from_refused : (h : Handed) (v : ℕ) (r : PeriodRate) → RateFrom h v r → 0 < r.refusal → r ≡ flat_rate_of (refused_rate r.refusal r.place)
rate_from_refused h v r x l = subst⁻¹ (λ (z : PeriodRate). z ≡ flat_rate_of (refused_rate z.refusal z.place)) x.result (ap flat_rate_of one)
  where
    one : x.rate ≡ refused_rate x.rate.refusal x.rate.place
    one =
        asked_refused h _ _ x.asked
        (λ e. subst⁻¹ (λ (z : Rated). z ≡ refused_rate z.refusal z.place) e refl)
        (λ y. rate_refused h.table v _ y (subst (λ (z : PeriodRate). 0 < z.refusal) x.result l))

-- ------------------------------------------------------------------------------------------------------------------------------------- a writing

pub writing_from_exists : (h : Handed) (out : List ℕ) → (r : PeriodCount) × (after : List ℕ) × WritingFrom h out r after
writing_from_exists h out =
    let ((w, after), x) = asked_exists h (λ f p (z : Written × List ℕ). (z.0 ≡ refused_write f p) × (z.1 ≡ out)) (λ t z. Writes t out z.0 z.1)
    (λ f p. ((refused_write f p, out), (refl, refl))) (λ t. let (w, a, y) = writes_exists t out in ((told_written w, a), y)) in
    (flat_count w, after, record { written = w; result = refl; asked = x })

pub writing_from_refused : (h : Handed) (out : List ℕ) (r : PeriodCount) (after : List ℕ) → WritingFrom h out r after → 0 < r.refusal
    → (r ≡ flat_count (refused_write r.refusal r.place)) × (after ≡ out)
writing_from_refused h out r after x l = (subst⁻¹ (λ (z : PeriodCount). z ≡ flat_count (refused_write z.refusal z.place)) x.result (ap flat_count one.0), one.1)
  where
    one : (x.written ≡ refused_write x.written.refusal x.written.place) × (after ≡ out)
    one =
        asked_refused h _ _ x.asked
        (λ e. (subst⁻¹ (λ (z : Written). z ≡ refused_write z.refusal z.place) e.0 refl, e.1))
        (λ y. writing_refused h.table out _ after y (subst (λ (z : PeriodCount). 0 < z.refusal) x.result l))

-- ---------------------------------------------------------------------------------------------------------------------------------- a simulation

pub simulation_from_exists : (h : Handed) (N : ℕ) (out : List ℕ) → (r : PeriodStatus) × (after : List ℕ) × SimulationFrom h N out r after
simulation_from_exists h N out =
    let ((s, after), x) = asked_exists h (λ f p (z : Told × List ℕ). (z.0 ≡ unsimulated f p) × (z.1 ≡ out)) (λ t z. SimulationOf t N out z.0 z.1)
    (λ f p. ((unsimulated f p, out), (refl, refl))) (λ t. let (s, a, y) = simulation_exists t N out in ((told s, a), y)) in
    (flat_status s, after, record { simulated = s; result = refl; asked = x })

-- number and place are all that it hands back
pub simulation_from_refused : (h : Handed) (N : ℕ) (out : List ℕ) (r : PeriodStatus) (after : List ℕ) → SimulationFrom h N out r after → 0 < r.refusal → after ≡ out
simulation_from_refused h N out r after x l =
    asked_refused h _ _ x.asked (λ e. e.1) (λ y. simulation_refused h.table N out _ after y (subst (λ (z : PeriodStatus). 0 < z.refusal) x.result l))

-- ------------------------------------------------------------------------------------------------------------------------------------ the report

pub report_from_exists : (s out : List ℕ) → (r : PeriodCount) × (after : List ℕ) × ReportFrom s out r after
report_from_exists s out =
    let (x, y) = text_exists s in
    by_cases (dec_lt (length out) (length x))
    (λ l. (flat_count (refused_write 8 (length x)), out, record { text = x; is_text = y; room = λ m. (refl, refl); written = λ m. absurd (omega arith) }))
    (λ l. (flat_count (written_as (length x)), x ++ drop (length x) out, record { text = x; is_text = y; room = λ m. absurd (omega arith); written = λ m. (refl, refl) }))

pub report_from_refused : (s out : List ℕ) (r : PeriodCount) (after : List ℕ) → ReportFrom s out r after → 0 < r.refusal
    → (r ≡ flat_count (refused_write r.refusal r.place)) × (after ≡ out)
report_from_refused s out r after x l =
    by_cases (dec_lt (length out) (length x.text))
    (λ m. let (e, f) = x.room m in (subst⁻¹ (λ (z : PeriodCount). z ≡ flat_count (refused_write z.refusal z.place)) e refl, f))
    (λ m. absurd (omega (arith, ap (λ (z : PeriodCount). z.refusal) (x.written (omega arith)).0)))

-- ------------------------------------------------------------------------------------------------------------------------------------------ bids

pub bids_from_exists : (x y : File) → (c : PeriodBids) × BidsFrom x y c
bids_from_exists x y = let (r, w, f, p, b) = better_exists x y in (flat_bids f w p r, bids_made x y r w w f p b refl)

-- 0 for which of the two, and an empty part
pub bids_from_refused : (x y : File) (c : PeriodBids) → BidsFrom x y c → 0 < c.refusal → (c.which ≡ 0) × (c.length ≡ 0)
bids_from_refused x y c a l = let e = better_refused x y a.part c.which c.refusal c.place a.is_better l in (e.2, a.size ∙ ap length e.0)

-- -------------------------------------------------------------------------------------------------------------------------------------- a number

-- A NUMBER REFUSED: number and place, value 0, and nothing left to read
pub number_in_refused : (s : List ℕ) (low high : ℕ) → 0 < (number_in s low high).refusal
    → number_in s low high ≡ flat_number (refused (number_in s low high).refusal (number_in s low high).place)
unfolding number_in number_of
number_in_refused s low high l = ap flat_number (limited_refused groups s low high _ l)
