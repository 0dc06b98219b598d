-- DEMAND 1: every call takes any file or table and comes back, refusing by number and place what it cannot use; a refusal hands back only that, and no lent
-- buffer has been written.
--
-- EVERY CALL COMES BACK, with one outcome for every input. (That the code ends, and hands it back, is what is proved of the code.)
--
--   call                 there is an outcome (Exists)                 and only one (proved where the promise stands)
--   sevens::number       number_exists (here)                         its promise `Read` has the answer as an equation
--   table::check         judged_exists                                judged_unique
--   read                 its promise is the equation `r ≡ read_of s`; of the Result of `rulefile::table`: file_exists (Reading)
--   write                writes_exists                                writes_unique
--   analyse              analysis_exists                              analysis_unique
--   rate                 rated_exists                                 rate_unique
--   simulate             simulation_exists                            simulation_unique
--   ends, side_by_side   bid_exists, laid_exists                      bid_unique, laid_unique
--   better               better_exists                                better_unique
--   report               text_exists                                  text_unique
--
-- The calls that C has: Columns, for the reading into columns, and Exported, for the others.
--
-- A REFUSAL, a number above 0, HANDS BACK NUMBER AND PLACE ALONE, AND EVERY LENT BUFFER IS AS IT WAS:
--
--   number_refused, check_refused, reading_refused, writing_refused, analysis_refused, rate_refused, simulation_refused, bid_refused, better_refused
use Rattle.std.specs.Prelude.{◌≡◌, refl, Bool, true, false, Result, Ok, Err, List, [], ℕ, ◌+◌, ◌-◌, ◌<◌, length, ltb}
use Rattle.std.proofs.Common.{ap, subst, inl, inr, ⊎_elim, arith}
use Rattle.std.proofs.Math.Path.{subst⁻¹}
use Rattle.std.proofs.Math.Logic.{by_cases}
use Rattle.std.proofs.Math.Decide.{dec_lt}
use Rattle.std.specs.Borrow.{Bor}
use Rattle.sevens.specs.declared.Raw.{Raw}
use Rattle.sevens.specs.declared.Raw.TheVariants.{Cut, Long, Value}
use Rattle.sevens.specs.Sevens.{Answer, refused, accepted, limited, raw_of, number_of, value_told, Read}
use Rattle.sevens.specs.Laws.{number_split}
use Rattle.table.specs.declared.Table.{Table}
use Rattle.refusals.specs.declared.Refusal.{Refusal}
use Rattle.refusals.specs.declared.Why.{Why}
use Rattle.refusals.specs.declared.Why.TheVariants.{Cut as IsCut, Long as IsLong, Range}
use Rattle.refusals.specs.Number.{Told, told, number_of as number_of_why, number_positive}
use Rattle.table.specs.Fields.{FirstBad, Judged, within_or_first_bad}
use Rattle.rulefile.specs.declared.FileRead.{FileRead}
use Rattle.rulefile.specs.File.{Written}
use Rattle.rates.specs.Rate.{Rated}
use Rattle.bids.specs.Promise.{Bid}
use Rattle.bids.specs.declared.Choice.{Choice}
use Rattle.bids.specs.declared.Choice.TheVariants.{Neither, First, Second}
use Rattle.engine.specs.Verdict.{Verdict, outside, knotted, flat, wide, found}
use Rattle.rulefile.specs.File.{file_of, read_of, refused_read, refused_write, Writes}
use Rattle.period.specs.Promise.{Outcome, outcome, refused_analysis, judged_outcome, is_outside, outcome_of, AnalysisOf}
use Rattle.rates.specs.Rate.{RateVerdict, bad_field, no_name, knot_at, unreached, too_wide, rated, refused_rate, rated_of, RateOf}
use Rattle.simulation.specs.Simulation.{SimulationOf}
use Rattle.bids.specs.Promise.{refused_bid, judged_bid, BidOf, File, Handed, choice_of, BetterOf}
use Rattle.rulefile.specs.RoundTrip.{refused_empty}
use Rattle.demands.specs.Reading.{refusal, picked}
use Rattle.demands.specs.Exists.{Buffers}
use Rattle.demands.specs.Outcomes.{short_or_roomy, simulation_cases}

-- ------------------------------------------------------------------------------------------------------------------------------------- a number

abbrev pub OnlyRefused : Answer → Type 0
OnlyRefused a = 0 < a.refusal → a ≡ refused a.refusal a.place

pub limited_refused : (g : ℕ) (s : List ℕ) (low high : ℕ) (x : Raw) → OnlyRefused (limited g s low high x)
unfolding limited
limited_refused g s low high Cut = λ l. refl
limited_refused g s low high Long = λ l. refl
limited_refused g s low high (Value v size) =
    picked OnlyRefused (ltb v low) _ _ (λ l. refl) (picked OnlyRefused (ltb high v) _ _ (λ l. refl) (λ l. absurd (omega arith)))

-- A NUMBER REFUSED: value 0, nothing left to read, and the empty part at the start of the bytes
pub number_refused : (g low high : ℕ) (s : Bor (List ℕ)) (a : Answer) (to : ℕ × ℕ) → Read g s.now low high a.value a.refusal a.place a.rest s.ref_ptr to → 0 < a.refusal
    → (a ≡ refused a.refusal a.place) × (to ≡ s.ref_ptr)
unfolding number_of
number_refused g low high s a to x l = (subst OnlyRefused x.answer (limited_refused g s.now low high (raw_of g s.now)) l, x.at_start l)

-- the answer a to the bytes s is told by some result and part
abbrev ToldPart : Bor (List ℕ) → Answer → Type 0
ToldPart s a =
    (x : Result ℕ Refusal) × (r : List ℕ) × (to : ℕ × ℕ) × (a ≡ record { value = value_told x; refusal = (told x).refusal; place = (told x).place; rest = r })
    × (0 < (told x).refusal → to ≡ s.ref_ptr) × ((told x).refusal ≡ 0 → (to.0 ≡ s.ref_ptr.0) × (to.1 ≡ s.ref_ptr.1 + (length s.now - length r)))

-- A NUMBER OR A REFUSAL, whatever the bytes: as the call hands it back, with the part r beside it
pub number_exists : (g low high : ℕ) (s : Bor (List ℕ))
    → (x : Result ℕ Refusal) × (r : List ℕ) × (to : ℕ × ℕ) × Read g s.now low high (value_told x) (told x).refusal (told x).place r s.ref_ptr to
number_exists g low high s =
    let (x, r, to, a, b, c) = number_split g s.now low high (ToldPart s) (λ e. bad IsCut _) (λ e. bad IsLong _) (λ v k e o. bad Range 0) (λ v k e l h. good v _) in
    (x, r, to, record { answer = a; at_start = b; at_end = c })
  where
    bad : (w : Why) (p : ℕ) → ToldPart s (refused (number_of_why w) p)
    bad w p = (Err (refusal w p), [], s.ref_ptr, refl, λ l. refl, λ e. absurd (omega (arith, number_positive w)))

    good : (v : ℕ) (r : List ℕ) → ToldPart s (accepted v r)
    good v r = (Ok v, r, (s.ref_ptr.0, s.ref_ptr.1 + (length s.now - length r)), refl, λ l. absurd (omega arith), λ e. (refl, refl))

-- --------------------------------------------------------------------------------------------------------------------------------------- a table

-- A TABLE REFUSED: 3, at its first field outside the limits
pub check_refused : (t : Table) (x : Told) → Judged t x → 0 < x.refusal → (x.refusal ≡ 3) × FirstBad t x.place
check_refused t x (inl a) l = absurd (omega (arith, a.1))
check_refused t x (inr a) l = (a.1, a.0)

-- ---------------------------------------------------------------------------------------------------------------------------------------- a file

-- A FILE REFUSED: number, place and the empty table
pub reading_refused : (s : List ℕ) (r : FileRead) → r ≡ read_of s → 0 < r.refusal → r ≡ refused_read r.refusal r.place
reading_refused s r e = subst⁻¹ (λ (x : FileRead). 0 < x.refusal → x ≡ refused_read x.refusal x.place) e only
  where
    only : 0 < (read_of s).refusal → read_of s ≡ refused_read (read_of s).refusal (read_of s).place
    only l = ap (λ (t : Table). record { refusal = (read_of s).refusal; place = (read_of s).place; table = t }) (refused_empty s l)

-- A WRITING REFUSED: number and place, a count of 0, and the buffer as it was lent
pub writing_refused : (t : Table) (out : List ℕ) (w : Written) (after : List ℕ) → Writes t out w after → 0 < w.refusal
    → (w ≡ refused_write w.refusal w.place) × (after ≡ out)
writing_refused t out w after x l =
    ⊎_elim
    (λ i. by_cases (dec_lt (length out) (length (file_of t)))
    (λ s. only _ _ (x.room i s))
    (λ s. absurd (omega (arith, ap (λ (z : Written). z.refusal) (x.written i (omega arith)).0))))
    (λ f. only _ _ (x.range f.0 f.1))
    (within_or_first_bad t)
  where
    only : (f p : ℕ) → (w ≡ refused_write f p) × (after ≡ out) → (w ≡ refused_write w.refusal w.place) × (after ≡ out)
    only f p e = (subst⁻¹ (λ (z : Written). z ≡ refused_write z.refusal z.place) e.0 refl, e.1)

-- ----------------------------------------------------------------------------------------------------------------------------------- an analysis

-- refused with its own number and place, all else 0, and the buffers b
abbrev pub RefusedAs : Buffers → Outcome → Type 0
RefusedAs b o = o ≡ outcome (refused_analysis o.result.refusal o.result.place) b.schedule b.low b.high

abbrev OnlyAs : Buffers → Outcome → Type 0
OnlyAs b o = 0 < o.result.refusal → RefusedAs b o

judged_only : (v : Verdict) (b : Buffers) → OnlyAs b (judged_outcome v b.schedule b.low b.high)
judged_only (outside k) b l = refl
judged_only (knotted u) b l = refl
judged_only flat b l = refl
judged_only wide b l = refl
judged_only (found a) b l = absurd (omega arith)

outcome_only : (n : ℕ) (v : Verdict) (b : Buffers) → OnlyAs b (outcome_of n v b.schedule b.low b.high)
outcome_only n v b = ⊎_elim (λ s. short s v) (λ s. subst⁻¹ (OnlyAs b) (s v) (judged_only v b)) (short_or_roomy n b)
  where
    short : ((v : Verdict) → is_outside v ≡ false → outcome_of n v b.schedule b.low b.high ≡ outcome (refused_analysis 8 n) b.schedule b.low b.high) → (v : Verdict) → OnlyAs b (outcome_of n v b.schedule b.low b.high)
    short s (outside k) = λ l. refl
    short s (knotted u) = subst⁻¹ (OnlyAs b) (s (knotted u) refl) (λ l. refl)
    short s flat = subst⁻¹ (OnlyAs b) (s flat refl) (λ l. refl)
    short s wide = subst⁻¹ (OnlyAs b) (s wide refl) (λ l. refl)
    short s (found a) = subst⁻¹ (OnlyAs b) (s (found a) refl) (λ l. refl)

-- AN ANALYSIS REFUSED: number and place, all else 0, and the three buffers as they were lent
pub analysis_refused : (t : Table) (b : Buffers) (o : Outcome) → AnalysisOf t b.schedule b.low b.high o → 0 < o.result.refusal
    → o ≡ outcome (refused_analysis o.result.refusal o.result.place) b.schedule b.low b.high
analysis_refused t b o is = subst⁻¹ (OnlyAs b) is.result (outcome_only t.n is.verdict b)

-- ---------------------------------------------------------------------------------------------------------------------------------------- a rate

rated_only : (n : ℕ) (x : RateVerdict) → 0 < (rated_of n x).refusal → rated_of n x ≡ refused_rate (rated_of n x).refusal (rated_of n x).place
rated_only n (bad_field k) l = refl
rated_only n no_name l = refl
rated_only n (knot_at u) l = refl
rated_only n unreached l = refl
rated_only n too_wide l = refl
rated_only n (rated a) l = absurd (omega arith)

-- A RATE REFUSED: number and place, all else 0
pub rate_refused : (t : Table) (v : ℕ) (r : Rated) → RateOf t v r → 0 < r.refusal → r ≡ refused_rate r.refusal r.place
rate_refused t v r is = subst⁻¹ (λ (x : Rated). 0 < x.refusal → x ≡ refused_rate x.refusal x.place) is.result (rated_only t.n is.verdict)

-- ---------------------------------------------------------------------------------------------------------------------------------- a simulation

-- A SIMULATION REFUSED: number and place are all that it hands back, and the buffer is as it was lent
pub simulation_refused : (t : Table) (N : ℕ) (out₀ : List ℕ) (r : Told) (out : List ℕ) → SimulationOf t N out₀ r out → 0 < r.refusal → out ≡ out₀
simulation_refused t N out₀ r out x l = ⊎_elim (λ c. c.3.kept) (λ c. absurd (omega (arith, c.2.number))) (simulation_cases t N out₀ r out x)

-- ------------------------------------------------------------------------------------------------------------------------------------------ bids

bid_only : (v : Verdict) → 0 < (judged_bid v).refusal → judged_bid v ≡ refused_bid (judged_bid v).refusal (judged_bid v).place
bid_only (outside k) l = refl
bid_only (knotted u) l = refl
bid_only flat l = refl
bid_only wide l = refl
bid_only (found a) l = absurd (omega arith)

-- A BID REFUSED: number and place, all else 0
pub bid_refused : (s : List ℕ) (b : Bid) → BidOf s b → 0 < b.refusal → b ≡ refused_bid b.refusal b.place
bid_refused s b is =
    by_cases (dec_lt 0 (read_of s).refusal)
    (λ l. subst⁻¹ (λ (x : Bid). 0 < x.refusal → x ≡ refused_bid x.refusal x.place) (is.refused l) (λ g. refl))
    (λ l. let a = is.accepted (omega arith) in subst⁻¹ (λ (x : Bid). 0 < x.refusal → x ≡ refused_bid x.refusal x.place) a.result (bid_only a.verdict))

handed_refused : (c : Choice) (a : Bid) (x y r : File) (w f p : ℕ) → Handed c a x y r w f p → 0 < f → (r.now ≡ []) × (r.ref_ptr ≡ x.ref_ptr) × (w ≡ 0)
handed_refused Neither a x y r w f p h l = (h.0, h.1, h.2)
handed_refused First a x y r w f p h l = absurd (omega (arith, h.2))
handed_refused Second a x y r w f p h l = absurd (omega (arith, h.2))

-- TWO BIDS REFUSED: number and place, the empty part at the first file's start, and 0 for which of the two
pub better_refused : (x y r : File) (w f p : ℕ) → BetterOf x y r w f p → 0 < f → (r.now ≡ []) × (r.ref_ptr ≡ x.ref_ptr) × (w ≡ 0)
better_refused x y r w f p is = handed_refused (choice_of is.first is.second) is.first x y r w f p is.handed
