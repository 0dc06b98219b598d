-- What the exported calls promise: the promises of the calls below them, on what was handed in, in numbers that C has.
--
--   AskedOf h R A        what was handed in is refused, and R holds of the refusal; or it is a table, and A holds of it
--   bit_of b              1 for true, 0 for false
--   flat_analysis_of, flat_rate_of, flat_count, flat_status     the answers as C gets them
--   AnalysisFrom h x l g r x' l' g'    THE PROMISE of an analysis: r is handed back, and the buffers x, l, g become x', l', g'
--   RateFrom h v r                     THE PROMISE of a rate
--   WritingFrom h out r after          THE PROMISE of writing
--   SimulationFrom h N out r after     THE PROMISE of a simulation
--   ReportFrom s out r after           THE PROMISE of the report on the bytes s
--   number_in s low high                what reading one number hands back
--
-- Theorems: analysis_from_unique, rate_from_unique, writing_from_unique, simulation_from_unique, report_from_unique (one outcome each).
use Rattle.std.specs.Prelude.{ℕ, ◌≤◌, ◌<◌, ◌≡◌, Bool, true, false, List, ◌++◌, length, drop}
use Rattle.std.proofs.Common.{sym, ap, ◌∙◌, subst, arith}
use Rattle.std.proofs.Math.Logic.{by_cases}
use Rattle.std.proofs.Math.Decide.{dec_lt}
use Rattle.sevens.specs.Sevens.{Answer, number_of}
use Rattle.table.specs.declared.Table.{Table}
use Rattle.refusals.specs.Number.{Told as Simulated}
use Rattle.rates.specs.Rate.{Rated, refused_rate, RateOf, rate_unique}
use Rattle.period.specs.Promise.{Analysis, Outcome, outcome, refused_analysis, AnalysisOf, analysis_unique}
use Rattle.rulefile.specs.File.{groups, Written, refused_write, written_as, Writes}
use Rattle.rulefile.specs.RoundTrip.{writes_unique}
use Rattle.simulation.specs.Simulation.{SimulationOf, simulation_unique}
use Rattle.text.specs.Text.{FileText, text_unique}
use Rattle.handed.specs.Columns.{Handed}
use Rattle.cperiod.specs.declared.PeriodAnalysis.{PeriodAnalysis}
use Rattle.cperiod.specs.declared.PeriodRate.{PeriodRate}
use Rattle.cperiod.specs.declared.PeriodCount.{PeriodCount}
use Rattle.cperiod.specs.declared.PeriodStatus.{PeriodStatus}
use Rattle.cperiod.specs.declared.PeriodNumber.{PeriodNumber}

-- a refusal of what was handed in comes before everything that is asked of a table
pub record AskedOf (h : Handed) (R : ℕ → ℕ → Type 0) (A : Table → Type 0) : Type 0 where
  pub refused : 0 < h.refusal → R h.refusal h.place
  pub answered : h.refusal ≡ 0 → A h.table

-- two answers to one question are the same, if two refusals are and two answers about a table are
asked_unique : {C : Type 0} (h : Handed) (R R' : ℕ → ℕ → Type 0) (A A' : Table → Type 0) → AskedOf h R A → AskedOf h R' A'
    → ((f p : ℕ) → R f p → R' f p → C) → ((t : Table) → A t → A' t → C) → C
asked_unique h R R' A A' a b f g =
    by_cases (dec_lt 0 h.refusal)
    (λ l. f h.refusal h.place (a.refused l) (b.refused l))
    (λ l. g h.table (a.answered (omega arith)) (b.answered (omega arith)))

-- ------------------------------------------------------------------------------------------------------------------------------------ analysis

abbrev pub bit_of : Bool → ℕ
bit_of true = 1
bit_of false = 0

abbrev pub flat_analysis_of : Analysis → PeriodAnalysis
flat_analysis_of a =
    record {
      refusal = a.refusal;
      exact = bit_of a.exact;
      place = a.place;
      lowp = a.low.p;
      lowq = a.low.q;
      lowlen = a.low.len;
      highp = a.high.p;
      highq = a.high.q;
      highlen = a.high.len;
    }

pub record AnalysisFrom (h : Handed) (x l g : List ℕ) (r : PeriodAnalysis) (x' l' g' : List ℕ) : Type 0 where
  pub analysis : Analysis
  pub result : r ≡ flat_analysis_of analysis
  pub asked : AskedOf h (λ f p. outcome analysis x' l' g' ≡ outcome (refused_analysis f p) x l g) (λ t. AnalysisOf t x l g (outcome analysis x' l' g'))

-- ONLY ONE OUTCOME
pub analysis_from_unique : (h : Handed) (x l g : List ℕ) (r s : PeriodAnalysis) (x' l' g' x'' l'' g'' : List ℕ)
    → AnalysisFrom h x l g r x' l' g' → AnalysisFrom h x l g s x'' l'' g'' → (r ≡ s) × (x' ≡ x'') × (l' ≡ l'') × (g' ≡ g'')
analysis_from_unique h x l g r s x' l' g' x'' l'' g'' a b =
    (a.result ∙ ap (λ (o : Outcome). flat_analysis_of o.result) one ∙ sym b.result, ap (λ (o : Outcome). o.schedule) one, ap (λ (o : Outcome). o.low) one, ap (λ (o : Outcome). o.high) one)
  where
    one : outcome a.analysis x' l' g' ≡ outcome b.analysis x'' l'' g''
    one = asked_unique h _ _ _ _ a.asked b.asked (λ f p c d. c ∙ sym d) (λ t c d. analysis_unique t x l g _ _ c d)

-- ---------------------------------------------------------------------------------------------------------------------------------------- rate

abbrev pub flat_rate_of : Rated → PeriodRate
flat_rate_of a =
    record {
      refusal = a.refusal;
      exact = bit_of a.exact;
      place = a.place;
      lowp = a.low.p;
      lowq = a.low.q;
      highp = a.high.p;
      highq = a.high.q;
    }

pub record RateFrom (h : Handed) (v : ℕ) (r : PeriodRate) : Type 0 where
  pub rate : Rated
  pub result : r ≡ flat_rate_of rate
  pub asked : AskedOf h (λ f p. rate ≡ refused_rate f p) (λ t. RateOf t v rate)

-- ONLY ONE OUTCOME
pub rate_from_unique : (h : Handed) (v : ℕ) (r s : PeriodRate) → RateFrom h v r → RateFrom h v s → r ≡ s
rate_from_unique h v r s a b =
    a.result ∙ ap flat_rate_of (asked_unique h _ _ _ _ a.asked b.asked (λ f p c d. c ∙ sym d) (λ t c d. rate_unique t v _ _ c d)) ∙ sym b.result

-- ------------------------------------------------------------------------------------------------------------------------------------- writing

abbrev pub flat_count : Written → PeriodCount
flat_count w = record { refusal = w.refusal; place = w.place; count = w.count }

pub record WritingFrom (h : Handed) (out : List ℕ) (r : PeriodCount) (after : List ℕ) : Type 0 where
  pub written : Written
  pub result : r ≡ flat_count written
  pub asked : AskedOf h (λ f p. (written ≡ refused_write f p) × (after ≡ out)) (λ t. Writes t out written after)

-- ONLY ONE OUTCOME
pub writing_from_unique : (h : Handed) (out : List ℕ) (r s : PeriodCount) (x y : List ℕ) → WritingFrom h out r x → WritingFrom h out s y → (r ≡ s) × (x ≡ y)
writing_from_unique h out r s x y a b = (a.result ∙ ap flat_count one.0 ∙ sym b.result, one.1)
  where
    one : (a.written ≡ b.written) × (x ≡ y)
    one = asked_unique h _ _ _ _ a.asked b.asked (λ f p c d. (c.0 ∙ sym d.0, c.1 ∙ sym d.1)) (λ t c d. writes_unique t out _ _ _ _ c d)

-- ---------------------------------------------------------------------------------------------------------------------------------- simulation

abbrev pub flat_status : Simulated → PeriodStatus
flat_status s = record { refusal = s.refusal; place = s.place }

abbrev pub unsimulated : ℕ → ℕ → Simulated
unsimulated number place = record { refusal = number; place = place }

pub record SimulationFrom (h : Handed) (N : ℕ) (out : List ℕ) (r : PeriodStatus) (after : List ℕ) : Type 0 where
  pub simulated : Simulated
  pub result : r ≡ flat_status simulated
  pub asked : AskedOf h (λ f p. (simulated ≡ unsimulated f p) × (after ≡ out)) (λ t. SimulationOf t N out simulated after)

-- ONLY ONE OUTCOME
pub simulation_from_unique : (h : Handed) (N : ℕ) (out : List ℕ) (r s : PeriodStatus) (x y : List ℕ) → SimulationFrom h N out r x → SimulationFrom h N out s y → (r ≡ s) × (x ≡ y)
simulation_from_unique h N out r s x y a b = (a.result ∙ ap flat_status one.0 ∙ sym b.result, one.1)
  where
    one : (a.simulated ≡ b.simulated) × (x ≡ y)
    one =
        asked_unique h _ _ _ _ a.asked b.asked (λ f p c d. (c.0 ∙ sym d.0, c.1 ∙ sym d.1))
        (λ t c d. let e = simulation_unique t N out _ _ _ _ c d in (e.result, e.buffer))

-- ------------------------------------------------------------------------------------------------------------------------------------ the report

-- a buffer that is too short for the text is refused 8 with the length needed, and is as it was; otherwise it starts with the text, and the rest is as it was
pub record ReportFrom (s out : List ℕ) (r : PeriodCount) (after : List ℕ) : Type 0 where
  pub text : List ℕ
  pub is_text : FileText s text
  pub room : length out < length text → (r ≡ flat_count (refused_write 8 (length text))) × (after ≡ out)
  pub written : length text ≤ length out → (r ≡ flat_count (written_as (length text))) × (after ≡ text ++ drop (length text) out)

-- two buffers and counts that the same text explains
report_same : (out x : List ℕ) (r s : PeriodCount) (a b : List ℕ) (h : length out < length x → (r ≡ flat_count (refused_write 8 (length x))) × (a ≡ out))
    (i : length x ≤ length out → (r ≡ flat_count (written_as (length x))) × (a ≡ x ++ drop (length x) out))
    (j : length out < length x → (s ≡ flat_count (refused_write 8 (length x))) × (b ≡ out))
    (k : length x ≤ length out → (s ≡ flat_count (written_as (length x))) × (b ≡ x ++ drop (length x) out)) → (r ≡ s) × (a ≡ b)
report_same out x r s a b h i j k =
    by_cases (dec_lt (length out) (length x))
    (λ l. ((h l).0 ∙ sym (j l).0, (h l).1 ∙ sym (j l).1))
    (λ l. let m : length x ≤ length out = omega arith in ((i m).0 ∙ sym (k m).0, (i m).1 ∙ sym (k m).1))

-- ONLY ONE OUTCOME
pub report_from_unique : (s out : List ℕ) (r q : PeriodCount) (x y : List ℕ) → ReportFrom s out r x → ReportFrom s out q y → (r ≡ q) × (x ≡ y)
report_from_unique s out r q x y a b = report_same out a.text r q x y a.room a.written moved.0 moved.1
  where
    moved : (length out < length a.text → (q ≡ flat_count (refused_write 8 (length a.text))) × (y ≡ out))
        × (length a.text ≤ length out → (q ≡ flat_count (written_as (length a.text))) × (y ≡ a.text ++ drop (length a.text) out))
    moved =
        subst
        (λ (z : List ℕ). (length out < length z → (q ≡ flat_count (refused_write 8 (length z))) × (y ≡ out)) × (length z ≤ length out → (q ≡ flat_count (written_as (length z))) × (y ≡ z ++ drop (length z) out)))
        (sym (text_unique s a.text b.text a.is_text b.is_text)) (b.room, b.written)

-- ------------------------------------------------------------------------------------------------------------------------------------ a number

-- the answer, with the length of the bytes not yet read: none where it is refused
abbrev pub flat_number : Answer → PeriodNumber
flat_number x = record { refusal = x.refusal; value = x.value; place = x.place; rest = length x.rest }

unfoldable pub number_in : List ℕ → ℕ → ℕ → PeriodNumber
number_in s low high = flat_number (number_of groups s low high)
