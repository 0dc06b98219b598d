-- DEMAND 2: a list within the limits, with room lent, is refused exactly when a loop has no turn or when no loop exists.
--
--   Room t x l h       == each of the three buffers has a place for every transition
--   knot_refused       a loop has no turn: refused 5, at the lowest transition on such a loop
--   flat_refused       every loop turns and there is none: refused 6
--   found_answered     every loop turns and there is one: answered
--   refused_only       and so refused in no other case
--   given_exact_answer with all delays given the answer is exact, and both ends are the period
use Rattle.std.specs.Prelude.{◌≡◌, refl, true, ◌⊎◌, List, ℕ, ◌≤◌, ◌<◌, length}
use Rattle.std.proofs.Common.{ap, ◌∙◌, inl, inr, ⊎_elim, arith, le-ltb}
use Rattle.model.specs.Loop.{SomeLoop, NoLoop, Live}
use Rattle.model.specs.Knot.{Knot}
use Rattle.model.specs.Period.{Period}
use Rattle.model.specs.Filling.{Given}
use Rattle.model.specs.Answer.{Answer, Answers}
use Rattle.theory.specs.Ends.{period_steady, given_exact, high_unique}
use Rattle.table.specs.declared.Table.{Table}
use Rattle.table.specs.Fields.{Within, within_not_bad}
use Rattle.table.specs.Meaning.{shape_of, ranges_of}
use Rattle.engine.specs.Verdict.{Verdict, outside, knotted, flat, wide, found, Judges, never_wide_at, verdict_exists, verdict_unique}
use Rattle.period.specs.Promise.{Outcome, judged_outcome, outcome_of, AnalysisOf}

abbrev pub Room : Table → List ℕ → List ℕ → List ℕ → Type 0
Room t x l h = (t.n ≤ length x) × (t.n ≤ length l) × (t.n ≤ length h)

-- with room lent, the verdict decides
roomy : (t : Table) (v : Verdict) (x l h : List ℕ) → Room t x l h → outcome_of t.n v x l h ≡ judged_outcome v x l h
roomy t (outside k) x l h r = refl
roomy t (knotted u) x l h r = simp (le-ltb (length x) t.n r.0, le-ltb (length l) t.n r.1, le-ltb (length h) t.n r.2)
roomy t flat x l h r = simp (le-ltb (length x) t.n r.0, le-ltb (length l) t.n r.1, le-ltb (length h) t.n r.2)
roomy t wide x l h r = simp (le-ltb (length x) t.n r.0, le-ltb (length l) t.n r.1, le-ltb (length h) t.n r.2)
roomy t (found a) x l h r = simp (le-ltb (length x) t.n r.0, le-ltb (length l) t.n r.1, le-ltb (length h) t.n r.2)

module _ (t : Table) (w : Within t) (x l h : List ℕ) (r : Room t x l h) (o : Outcome) (is : AnalysisOf t x l h o) where
  -- the outcome is that of any verdict on the table
  by_verdict : (v : Verdict) → Judges t v → o ≡ judged_outcome v x l h
  by_verdict v j = is.result ∙ ap (λ z. outcome_of t.n z x l h) (verdict_unique t is.verdict v is.judged j) ∙ roomy t v x l h r

  pub knot_refused : (u : ℕ) → Knot (shape_of t) u → o ≡ judged_outcome (knotted u) x l h
  knot_refused u k = by_verdict (knotted u) (w, k)

  pub flat_refused : Live (shape_of t) → NoLoop (shape_of t) → o ≡ judged_outcome flat x l h
  flat_refused live none = by_verdict flat (w, live, none)

  pub found_answered : Live (shape_of t) → SomeLoop (shape_of t) → (a : Answer) × Answers (shape_of t) (ranges_of t) t.n a × (o ≡ judged_outcome (found a) x l h)
  found_answered live some = at (verdict_exists t).0 (verdict_exists t).1
    where
      at : (v : Verdict) → Judges t v → (a : Answer) × Answers (shape_of t) (ranges_of t) t.n a × (o ≡ judged_outcome (found a) x l h)
      at (outside k) j = absurd (within_not_bad t k w j)
      at (knotted u) j = absurd (omega (arith, live u j.1.loop j.1.is_loop, j.1.no_turn))
      at flat j = absurd (j.2 some.at some.loop some.is_loop)
      at wide j = absurd (never_wide_at t w j.2.0 j.2.1 j.2.2)
      at (found a) j = (a, j.2, by_verdict (found a) j)

  -- REFUSED EXACTLY THEN
  pub refused_only : 0 < o.result.refusal → ((u : ℕ) × Knot (shape_of t) u) ⊎ NoLoop (shape_of t)
  refused_only b = at is.verdict is.judged (by_verdict is.verdict is.judged)
    where
      at : (v : Verdict) → Judges t v → o ≡ judged_outcome v x l h → ((u : ℕ) × Knot (shape_of t) u) ⊎ NoLoop (shape_of t)
      at (outside k) j e = absurd (within_not_bad t k w j)
      at (knotted u) j e = inl (u, j.1)
      at flat j e = inr j.2
      at wide j e = absurd (never_wide_at t w j.2.0 j.2.1 j.2.2)
      at (found a) j e = absurd (omega (arith, ap (λ (z : Outcome). z.result.refusal) e))

-- with all delays given
pub given_exact_answer : (t : Table) (a : Answer) → Given (shape_of t) (ranges_of t) → Answers (shape_of t) (ranges_of t) t.n a → (a.ends.low_p ≡ a.ends.high_p) × (a.ends.low_q ≡ a.ends.high_q) × (a.ends.exact ≡ true)
given_exact_answer t a g x =
    let S = shape_of t in
    let K = ranges_of t in
    let same = high_unique S K (Period S) (period_steady S) a.ends.low_p a.ends.low_q a.ends.high_p a.ends.high_q (given_exact S K (Period S) (period_steady S) g a.ends.low_p a.ends.low_q x.ends.low) x.ends.high in
    (same.0, same.1, ⊎_elim (λ m. m.2) (λ m. absurd (m.0 (same.0, same.1))) x.ends.meet)
