-- Nothing is lost where a promise speaks of what is told of an answer: one answer, or one refusal, is told as no other. So where a promise has one outcome, the call has.
--
--   once                            from how a told record is read back: numbers of refusal are above 0, and no two reasons have the same
--   lap_told_once, rate_told_once, bid_told_once, analysis_told_once, written_told_once, file_told_once, handed_told_once
--                                   of `engine::measure`, `rates::rate`, `bids::ends`, `period::analyse`, `rulefile::write`, `rulefile::table`, `handed::from_columns`
--   number_told_once                of `sevens::number`, whose promise speaks of the value and of the refusal apart
--   laid_told_once                  of `bids::side_by_side`: two bids and the better one
--
-- Of `table::check`, `engine::turns` and `simulation::simulate` it is `told_once` (refusals/Number), of `rates_text::list_rates` `listing_told_once` (rates_text/Rates).
use Rattle.std.specs.Prelude.{ℕ, ◌≡◌, refl, Result, Ok, Err}
use Rattle.std.proofs.Common.{arith, sym, ap, ◌∙◌}
use Rattle.refusals.specs.declared.Refusal.{Refusal}
use Rattle.refusals.specs.Number.{Told, told, number_of, number_positive, number_once}
use Rattle.sevens.specs.Sevens.{value_told}
use Rattle.table.specs.declared.Table.{Table}
use Rattle.engine.specs.declared.Range.{Range}
use Rattle.engine.specs.declared.Lap.{Lap as Measured}
use Rattle.engine.specs.Lap.{Lap, told_lap}
use Rattle.rates.specs.Rate.{Rated, told_rate}
use Rattle.bids.specs.declared.Laid.{Laid as SideBySide}
use Rattle.bids.specs.Promise.{Bid, told_bid, told_laid, laid_told}
use Rattle.period.specs.declared.Analysis.{Analysis as Analysed}
use Rattle.period.specs.Promise.{Analysis, told_analysis}
use Rattle.rulefile.specs.declared.FileRead.{FileRead}
use Rattle.rulefile.specs.File.{Written, told_written, told_read}
use Rattle.handed.specs.Columns.{Handed, told_handed}

same_refusal : (f g : Refusal) → number_of f.why ≡ number_of g.why → f.place ≡ g.place → f ≡ g
same_refusal f g a b = ap (λ w. record { why = w; place = f.place }) (number_once f.why g.why a) ∙ ap (λ p. record { why = g.why; place = p }) b

pub once : {A T : Type 0} (tell : Result A Refusal → T) (number place : T → ℕ) (back : T → A)
    → ((a : A) → (number (tell (Ok a)) ≡ 0) × (back (tell (Ok a)) ≡ a))
    → ((e : Refusal) → (number (tell (Err e)) ≡ number_of e.why) × (place (tell (Err e)) ≡ e.place))
    → (x y : Result A Refusal) → tell x ≡ tell y → x ≡ y
once tell number place back ok err (Ok a) (Ok b) e = ap Ok (sym (ok a).1 ∙ ap back e ∙ (ok b).1)
once tell number place back ok err (Ok a) (Err f) e = absurd (omega (arith, number_positive f.why, (ok a).0, (err f).0, ap number e))
once tell number place back ok err (Err f) (Ok b) e = absurd (omega (arith, number_positive f.why, (ok b).0, (err f).0, ap number e))
once tell number place back ok err (Err f) (Err g) e =
    ap Err (same_refusal f g (sym (err f).0 ∙ ap number e ∙ (err g).0) (sym (err f).1 ∙ ap place e ∙ (err g).1))

pub lap_told_once : (x y : Result Measured Refusal) → told_lap x ≡ told_lap y → x ≡ y
lap_told_once =
    once told_lap (λ (l : Lap). l.refusal) (λ (l : Lap). l.place) (λ (l : Lap). record { exact = l.exact; low = l.low; high = l.high; schedule = l.schedule })
    (λ a. (refl, refl)) (λ e. (refl, refl))

pub rate_told_once : (x y : Result Range Refusal) → told_rate x ≡ told_rate y → x ≡ y
rate_told_once =
    once told_rate (λ (r : Rated). r.refusal) (λ (r : Rated). r.place) (λ (r : Rated). record { exact = r.exact; low = r.low; high = r.high })
    (λ a. (refl, refl)) (λ e. (refl, refl))

pub bid_told_once : (x y : Result Range Refusal) → told_bid x ≡ told_bid y → x ≡ y
bid_told_once =
    once told_bid (λ (b : Bid). b.refusal) (λ (b : Bid). b.place) (λ (b : Bid). record { exact = b.exact; low = b.low; high = b.high })
    (λ a. (refl, refl)) (λ e. (refl, refl))

pub analysis_told_once : (x y : Result Analysed Refusal) → told_analysis x ≡ told_analysis y → x ≡ y
analysis_told_once =
    once told_analysis (λ (a : Analysis). a.refusal) (λ (a : Analysis). a.place) (λ (a : Analysis). record { exact = a.exact; low = a.low; high = a.high })
    (λ a. (refl, refl)) (λ e. (refl, refl))

pub written_told_once : (x y : Result ℕ Refusal) → told_written x ≡ told_written y → x ≡ y
written_told_once = once told_written (λ (w : Written). w.refusal) (λ (w : Written). w.place) (λ (w : Written). w.count) (λ a. (refl, refl)) (λ e. (refl, refl))

pub file_told_once : (x y : Result Table Refusal) → told_read x ≡ told_read y → x ≡ y
file_told_once = once told_read (λ (f : FileRead). f.refusal) (λ (f : FileRead). f.place) (λ (f : FileRead). f.table) (λ a. (refl, refl)) (λ e. (refl, refl))

pub handed_told_once : (x y : Result Table Refusal) → told_handed x ≡ told_handed y → x ≡ y
handed_told_once = once told_handed (λ (h : Handed). h.refusal) (λ (h : Handed). h.place) (λ (h : Handed). h.table) (λ a. (refl, refl)) (λ e. (refl, refl))

pub number_told_once : (x y : Result ℕ Refusal) → value_told x ≡ value_told y → told x ≡ told y → x ≡ y
number_told_once (Ok a) (Ok b) v e = ap Ok v
number_told_once (Ok a) (Err f) v e = absurd (omega (arith, number_positive f.why, ap (λ (t : Told). t.refusal) e))
number_told_once (Err f) (Ok b) v e = absurd (omega (arith, number_positive f.why, ap (λ (t : Told). t.refusal) e))
number_told_once (Err f) (Err g) v e = ap Err (same_refusal f g (ap (λ (t : Told). t.refusal) e) (ap (λ (t : Told). t.place) e))

pub laid_told_once : (x y : SideBySide) → told_laid x ≡ told_laid y → x ≡ y
laid_told_once = laid_told bid_told_once
