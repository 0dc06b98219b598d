-- Steps of the proofs: the text made of an analysis is the text for its table.
--
--   ends_of r             the ends of the analysis r
--   answer_of r l h x     the answer that it stands for, with the loops l and h and the schedule x
--   told_answer r l h x   the same, of what is told of an analysis
--   TableReport t r      what `judged` promises
--   Sized n o            the lists of an outcome are there, and not long
--
-- Laws: listed_next, listed_same (numbers of either width), analysed_refused, analysed_answer, analysed_sized (an analysis with room), report_refused,
-- report_judged.
use Rattle.std.specs.Prelude.{◌≡◌, refl, List, [], ◌∷◌, ◌++◌, ℕ, ◌+◌, ◌≤◌, ◌<◌, ltb, length, get_or, take, drop, replicate}
use Rattle.std.specs.List.{AllZip}
use Rattle.std.proofs.Common.{sym, ap, ◌∙◌, subst, arith, add-one, length-append, take-suc, take_at, lt-ltb, le-ltb}
use Rattle.std.proofs.lemmas.List.{length-replicate}
use Rattle.std.proofs.Math.Seq.{take-append_seam}
use Rattle.model.specs.Ends.{Range}
use Rattle.model.specs.Answer.{Answer}
use Rattle.theory.specs.Loop.{loop_short}
use Rattle.table.specs.declared.Table.{Table}
use Rattle.table.specs.Meaning.{shape_of, within_fits}
use Rattle.engine.specs.Verdict.{Verdict, outside, knotted, flat, wide, found, Judges}
use Rattle.rulefile.specs.declared.FileRead.{FileRead}
use Rattle.rulefile.specs.File.{read_of}
use Rattle.period.specs.declared.Analysis.{Analysis as Given}
use Rattle.period.specs.Promise.{Analysis, Outcome, judged_outcome, room_for, outcome_of, AnalysisOf}
use Rattle.words.specs.declared.Text.{Text}
use Rattle.words.specs.Decimal.{pick}
use Rattle.words.specs.Lines.{refused_line_of}
use Rattle.words.specs.Held.{Holds}
use Rattle.text.specs.Text.{answer_text, verdict_text, TableText, ReadText, ReportOf}

listed_more : {A : Type 0} (R : A → ℕ → Type 0) (xs : List A) (ns : List ℕ) (x : A) (n : ℕ) → AllZip R xs ns → R x n → AllZip R (xs ++ (x ∷ [])) (ns ++ (n ∷ []))
listed_more R [] [] x n z h = (h, tt)
listed_more R [] (m ∷ ns) x n z h = absurd z
listed_more R (y ∷ xs) [] x n z h = absurd z
listed_more R (y ∷ xs) (m ∷ ns) x n z h = (z.0, listed_more R xs ns x n z.1 h)

-- one more of a list is handed over as a number
pub listed_next : {A : Type 0} (R : A → ℕ → Type 0) (xs : List A) (i : ℕ) (x : A) (ns : List ℕ) (n : ℕ) → i < length xs → x ≡ get_or xs i x
    → AllZip R (take i xs) ns → R x n → AllZip R (take (i + 1) xs) (ns ++ (n ∷ []))
listed_next R xs i x ns n b e z h = rw (add-one, take-suc xs i x b, sym e) (listed_more R (take i xs) ns x n z h)

-- numbers that are handed over as they are
pub listed_same : (xs ns : List ℕ) → AllZip (λ x n. n ≡ x) xs ns → ns ≡ xs
listed_same [] [] z = refl
listed_same [] (n ∷ ns) z = absurd z
listed_same (x ∷ xs) [] z = absurd z
listed_same (x ∷ xs) (n ∷ ns) z = let e = z.0 in let f = listed_same xs ns z.1 in cc

abbrev pub ends_of : Given → Range
ends_of r = record { low_p = r.low.p; low_q = r.low.q; high_p = r.high.p; high_q = r.high.q; exact = r.exact }

abbrev pub answer_of : Given → List ℕ → List ℕ → List ℕ → Answer
answer_of r l h x = record { ends = ends_of r; low_loop = l; high_loop = h; schedule = x }

-- the same, of what is told of an analysis
abbrev pub told_answer : Analysis → List ℕ → List ℕ → List ℕ → Answer
told_answer r l h x =
    record { ends = record { low_p = r.low.p; low_q = r.low.q; high_p = r.high.p; high_q = r.high.q; exact = r.exact }; low_loop = l; high_loop = h; schedule = x }

-- what `judged` promises: the text for a table, held whole
pub record TableReport (t : Table) (r : Text) : Type 0 where
  pub text : List ℕ
  pub is_text : TableText t text
  pub is_held : Holds r text

-- the text that is made of an outcome for n transitions
abbrev made_text : ℕ → Outcome → List ℕ
made_text n o =
    pick (ltb 0 o.result.refusal)
    (refused_line_of o.result.refusal o.result.place)
    (answer_text (told_answer o.result (take o.result.low.len o.low) (take o.result.high.len o.high) (take n o.schedule)))

same_answer : (a : Answer) (l h x : List ℕ) → l ≡ a.low_loop → h ≡ a.high_loop → x ≡ a.schedule
    → answer_text (record { ends = a.ends; low_loop = l; high_loop = h; schedule = x }) ≡ answer_text a
same_answer a l h x e f g = rw (e, f, g)

made_verdict : (t : Table) (v : Verdict) (x l h : List ℕ) → Judges t v → made_text t.n (judged_outcome v x l h) ≡ verdict_text v
made_verdict t (outside k) x l h j = refl
made_verdict t (knotted u) x l h j = refl
made_verdict t flat x l h j = refl
made_verdict t wide x l h j = refl
made_verdict t (found a) x l h j =
    same_answer a _ _ _
    (take-append_seam a.low_loop (drop (length a.low_loop) l))
    (take-append_seam a.high_loop (drop (length a.high_loop) h))
    (take_at a.schedule (drop (length a.schedule) x) t.n j.2.schedule.is_schedule.size)

-- the lists of an outcome for n transitions: at most 256 numbers each, which are there
pub record Sized (n : ℕ) (o : Outcome) : Type 0 where
  pub few : n ≤ 256
  pub low_few : o.result.low.len ≤ 256
  pub high_few : o.result.high.len ≤ 256
  pub fits : n ≤ length o.schedule
  pub low_fits : o.result.low.len ≤ length o.low
  pub high_fits : o.result.high.len ≤ length o.high

-- a buffer of 256 zeros, as lent to the analysis
abbrev pub fresh : List ℕ
fresh = replicate 256 0

module _ (t : Table) where
  -- it has room enough
  roomy : (v : Verdict) (x : List ℕ) → 256 ≤ length x → t.n ≤ 256 → room_for t.n v x x x ≡ judged_outcome v x x x
  roomy v x many few = simp (le-ltb (length x) t.n (omega arith))

  enough : (v : Verdict) → t.n ≤ 256 → room_for t.n v fresh fresh fresh ≡ judged_outcome v fresh fresh fresh
  enough v few = roomy v fresh (omega (arith, length-replicate {A = ℕ} 256 0)) few

  -- so the verdict alone decides
  judged_outcome_lem : (v : Verdict) → Judges t v → outcome_of t.n v fresh fresh fresh ≡ judged_outcome v fresh fresh fresh
  judged_outcome_lem (outside k) j = refl
  judged_outcome_lem (knotted u) j = enough (knotted u) j.0.n_high
  judged_outcome_lem flat j = enough flat j.0.n_high
  judged_outcome_lem wide j = enough wide j.0.n_high
  judged_outcome_lem (found a) j = enough (found a) j.0.n_high

  module _ (o : Outcome) (is : AnalysisOf t fresh fresh fresh o) where
    decided : o ≡ judged_outcome is.verdict fresh fresh fresh
    decided = is.result ∙ judged_outcome_lem is.verdict is.judged

    made : TableText t (made_text t.n o)
    made = record { verdict = is.verdict; judged = is.judged; result = ap (made_text t.n) decided ∙ made_verdict t is.verdict fresh fresh fresh is.judged }

    -- a refusal
    pub analysed_refused : 0 < o.result.refusal → TableText t (refused_line_of o.result.refusal o.result.place)
    analysed_refused b = simp (lt-ltb 0 o.result.refusal b) at made

    -- an answer
    pub analysed_answer : o.result.refusal ≤ 0
        → TableText t (answer_text (told_answer o.result (take o.result.low.len o.low) (take o.result.high.len o.high) (take t.n o.schedule)))
    analysed_answer b = simp (le-ltb 0 o.result.refusal b) at made

    pub analysed_sized : o.result.refusal ≤ 0 → Sized t.n o
    analysed_sized b = at is.verdict is.judged decided
      where
        at : (v : Verdict) → Judges t v → o ≡ judged_outcome v fresh fresh fresh → Sized t.n o
        at (outside k) j e = absurd (omega (arith, ap (λ (u : Outcome). u.result.refusal) e))
        at (knotted u) j e = absurd (omega (arith, ap (λ (u : Outcome). u.result.refusal) e))
        at flat j e = absurd (omega (arith, ap (λ (u : Outcome). u.result.refusal) e))
        at wide j e = absurd (omega (arith, ap (λ (u : Outcome). u.result.refusal) e))
        at (found a) j e =
            subst (Sized t.n) (sym e) (record {
              few = j.0.n_high;
              low_few = omega (arith, j.0.n_high, loop_short (shape_of t) t.n (within_fits t j.0) j.2.low_at a.low_loop j.2.low_loop.is_loop);
              high_few = omega (arith, j.0.n_high, loop_short (shape_of t) t.n (within_fits t j.0) j.2.high_at a.high_loop j.2.high_loop.is_loop);
              fits = omega (arith, j.2.schedule.is_schedule.size, length-append a.schedule (drop (length a.schedule) fresh));
              low_fits = omega (arith, length-append a.low_loop (drop (length a.low_loop) fresh));
              high_fits = omega (arith, length-append a.high_loop (drop (length a.high_loop) fresh));
            })

-- the texts of a file
pub report_refused : (s : List ℕ) (f : FileRead) (r : Text) → f ≡ read_of s → 0 < f.refusal → Holds r (refused_line_of f.refusal f.place) → ReportOf s r
report_refused s f r e b h =
    record {
      text = refused_line_of f.refusal f.place;
      is_text = subst (λ (g : FileRead). ReadText g (refused_line_of f.refusal f.place)) e (record { refused = λ l. refl; accepted = λ l. absurd (omega arith) });
      is_held = h;
    }

pub report_judged : (s : List ℕ) (f : FileRead) (r : Text) → f ≡ read_of s → f.refusal ≤ 0 → TableReport f.table r → ReportOf s r
report_judged s f r e b h =
    record {
      text = h.text;
      is_text = subst (λ (g : FileRead). ReadText g h.text) e (record { refused = λ l. absurd (omega arith); accepted = λ l. h.is_text });
      is_held = h.is_held;
    }
