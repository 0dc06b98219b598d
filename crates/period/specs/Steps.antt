-- Steps of the proof of `analyse`.
--
--   put_next                     one value more is put into a buffer
--   analysed-...                 what each way out of the call hands back is what the promise says
use Rattle.std.specs.Prelude.{◌≡◌, refl, true, false, ◌≢◌, List, [], ◌∷◌, ◌++◌, ℕ, zero, suc, ◌+◌, ◌-◌, ◌≤◌, ◌<◌, length, get_or, set, take, drop, replicate}
use Rattle.std.proofs.Common.{sym, ap, ◌∙◌, true≢false, arith, add-one, lt-ltb, le-ltb}
use Rattle.std.proofs.Math.Seq.{take-append_seam}
use Rattle.model.specs.Answer.{Answer}
use Rattle.theory.specs.Loop.{loop_short}
use Rattle.table.specs.declared.Table.{Table}
use Rattle.table.specs.Fields.{Within}
use Rattle.table.specs.Meaning.{shape_of, within_fits}
use Rattle.engine.specs.Verdict.{Verdict, outside, knotted, flat, wide, found, Judges}
use Rattle.engine.specs.Lap.{Lap, LapOf, lap_of}
use Rattle.period.specs.Promise.{Analysis, Outcome, outcome, refused_analysis, judged_outcome, room_for, is_outside, outcome_of, AnalysisOf}

put_one : (i : ℕ) (x out : List ℕ) → i < length x → i < length out → set (take i x ++ drop i out) i (get_or x i 0) ≡ take (suc i) x ++ drop (suc i) out
put_one zero [] out b c = absurd (omega arith)
put_one zero (y ∷ x) [] b c = absurd (omega arith)
put_one zero (y ∷ x) (o ∷ out) b c = refl
put_one (suc i) [] out b c = absurd (omega arith)
put_one (suc i) (y ∷ x) [] b c = absurd (omega arith)
put_one (suc i) (y ∷ x) (o ∷ out) b c = ap (λ l. y ∷ l) (put_one i x out (omega arith) (omega arith))

pub put_next : (i : ℕ) (x out₀ out : List ℕ) → i < length x → i < length out₀ → out ≡ take i x ++ drop i out₀ → set out i (get_or x i 0) ≡ take (i + 1) x ++ drop (i + 1) out₀
put_next i x out₀ out b c e = rw (e, add-one i) (put_one i x out₀ b c)

-- a table outside its limits is what the engine refuses with 3
outside_three : (v : Verdict) → (lap_of v).refusal ≡ 3 → is_outside v ≡ true
outside_three (outside k) e = refl
outside_three (knotted u) e = absurd (omega arith)
outside_three flat e = absurd (omega arith)
outside_three wide e = absurd (omega arith)
outside_three (found a) e = absurd (omega arith)

not_three : (v : Verdict) → (lap_of v).refusal ≢ 3 → is_outside v ≡ false
not_three (outside k) d = absurd (d refl)
not_three (knotted u) d = refl
not_three flat d = refl
not_three wide d = refl
not_three (found a) d = refl

-- a refusal hands back number and place, and leaves the buffers
refused_outcome : (v : Verdict) (x l h : List ℕ) → 0 < (lap_of v).refusal → judged_outcome v x l h ≡ outcome (refused_analysis (lap_of v).refusal (lap_of v).place) x l h
refused_outcome (outside k) x l h b = refl
refused_outcome (knotted u) x l h b = refl
refused_outcome flat x l h b = refl
refused_outcome wide x l h b = refl
refused_outcome (found a) x l h b = absurd (omega arith)

-- a verdict other than `outside` is on a table within its limits, whose loops have no more rules than there are transitions
judged_within : (t : Table) (v : Verdict) → Judges t v → is_outside v ≡ false → Within t
judged_within t (outside k) j e = absurd (true≢false e)
judged_within t (knotted u) j e = j.0
judged_within t flat j e = j.0
judged_within t wide j e = j.0
judged_within t (found a) j e = j.0

judged_short : (t : Table) (v : Verdict) → Judges t v → ((lap_of v).low.len ≤ t.n) × ((lap_of v).high.len ≤ t.n)
judged_short t (outside k) j = (omega arith, omega arith)
judged_short t (knotted u) j = (omega arith, omega arith)
judged_short t flat j = (omega arith, omega arith)
judged_short t wide j = (omega arith, omega arith)
judged_short t (found a) j = (
  loop_short (shape_of t) t.n (within_fits t j.0) j.2.low_at a.low_loop j.2.low_loop.is_loop,
  loop_short (shape_of t) t.n (within_fits t j.0) j.2.high_at a.high_loop j.2.high_loop.is_loop,
)

-- what the code makes of the engine's lap
abbrev pub made_analysis : Lap → Analysis
made_analysis lap =
    record {
      refusal = 0;
      place = 0;
      exact = lap.exact;
      low = record { p = lap.low.p; q = lap.low.q; len = lap.low.len };
      high = record { p = lap.high.p; q = lap.high.q; len = lap.high.len };
    }

abbrev pub made_outcome : ℕ → Lap → List ℕ → List ℕ → List ℕ → Outcome
made_outcome n lap x l h =
    outcome (made_analysis lap) (take n lap.schedule ++ drop n x) (take lap.low.len lap.low.rules ++ drop lap.low.len l)
    (take lap.high.len lap.high.rules ++ drop lap.high.len h)

made_found : (n : ℕ) (a : Answer) (x l h : List ℕ) → length a.schedule ≡ n → made_outcome n (lap_of (found a)) x l h ≡ judged_outcome (found a) x l h
made_found n a x l h e =
    rw (
      sym e,
      take-append_seam a.schedule (replicate (256 - length a.schedule) 0),
      take-append_seam a.low_loop (replicate (256 - length a.low_loop) 0),
      take-append_seam a.high_loop (replicate (256 - length a.high_loop) 0),
    )

made_judged : (t : Table) (v : Verdict) → Judges t v → (x l h : List ℕ) → (lap_of v).refusal ≤ 0 → made_outcome t.n (lap_of v) x l h ≡ judged_outcome v x l h
made_judged t (outside k) j x l h b = absurd (omega arith)
made_judged t (knotted u) j x l h b = absurd (omega arith)
made_judged t flat j x l h b = absurd (omega arith)
made_judged t wide j x l h b = absurd (omega arith)
made_judged t (found a) j x l h b = made_found t.n a x l h j.2.schedule.is_schedule.size

module _ (t : Table) (lap : Lap) (is : LapOf t lap) where
  number : lap.refusal ≡ (lap_of is.verdict).refusal
  number = ap (λ (l : Lap). l.refusal) is.result

  position : lap.place ≡ (lap_of is.verdict).place
  position = ap (λ (l : Lap). l.place) is.result

  module _ (x l h : List ℕ) (r : Analysis) where
    -- refused 3
    pub analysed_outside : lap.refusal ≡ 3 → r ≡ refused_analysis lap.refusal lap.place → AnalysisOf t x l h (outcome r x l h)
    analysed_outside e f =
        record {
          verdict = is.verdict;
          judged = is.judged;
          result = rw (outside_three is.verdict (sym number ∙ e), f, number, position) (sym (refused_outcome is.verdict x l h (omega (arith, number))));
        }

    -- refused 8, where a buffer is too short
    short : lap.refusal ≢ 3 → r ≡ refused_analysis 8 t.n → room_for t.n is.verdict x l h ≡ outcome (refused_analysis 8 t.n) x l h → AnalysisOf t x l h (outcome r x l h)
    short d f e = record { verdict = is.verdict; judged = is.judged; result = rw (not_three is.verdict (λ z. d (number ∙ z)), f) (sym e) }

    pub analysed_short_schedule : lap.refusal ≢ 3 → r ≡ refused_analysis 8 t.n → length x < t.n → AnalysisOf t x l h (outcome r x l h)
    analysed_short_schedule d f a = short d f (simp (lt-ltb (length x) t.n a))

    pub analysed_short_low : lap.refusal ≢ 3 → r ≡ refused_analysis 8 t.n → t.n ≤ length x → length l < t.n → AnalysisOf t x l h (outcome r x l h)
    analysed_short_low d f a b = short d f (simp (le-ltb (length x) t.n a, lt-ltb (length l) t.n b))

    pub analysed_short_high : lap.refusal ≢ 3 → r ≡ refused_analysis 8 t.n → t.n ≤ length x → t.n ≤ length l → length h < t.n → AnalysisOf t x l h (outcome r x l h)
    analysed_short_high d f a b c = short d f (simp (le-ltb (length x) t.n a, le-ltb (length l) t.n b, lt-ltb (length h) t.n c))

    module _ (rx : t.n ≤ length x) (rl : t.n ≤ length l) (rh : t.n ≤ length h) where
      roomy : lap.refusal ≢ 3 → outcome_of t.n is.verdict x l h ≡ judged_outcome is.verdict x l h
      roomy d = simp (not_three is.verdict (λ z. d (number ∙ z)), le-ltb (length x) t.n rx, le-ltb (length l) t.n rl, le-ltb (length h) t.n rh)

      -- refused 5, 6 or 11
      pub analysed_refused : lap.refusal ≢ 3 → 0 < lap.refusal → r ≡ refused_analysis lap.refusal lap.place → AnalysisOf t x l h (outcome r x l h)
      analysed_refused d b f =
          record {
            verdict = is.verdict;
            judged = is.judged;
            result = rw (f, number, position) (sym (refused_outcome is.verdict x l h (omega (arith, number)))) ∙ sym (roomy d);
          }

      -- the answer
      pub analysed_found : lap.refusal ≢ 3 → lap.refusal ≤ 0 → (x' l' h' : List ℕ) → x' ≡ take t.n lap.schedule ++ drop t.n x
          → l' ≡ take lap.low.len lap.low.rules ++ drop lap.low.len l → h' ≡ take lap.high.len lap.high.rules ++ drop lap.high.len h
          → AnalysisOf t x l h (outcome (made_analysis lap) x' l' h')
      analysed_found d b x' l' h' ex el eh =
          record {
            verdict = is.verdict;
            judged = is.judged;
            result = rw (ex, el, eh) (ap (λ (k : Lap). made_outcome t.n k x l h) is.result) ∙ made_judged t is.verdict is.judged x l h (omega (arith, number)) ∙ sym (roomy d);
          }

  -- within the limits
  pub lap_within : lap.refusal ≢ 3 → Within t
  lap_within d = judged_within t is.verdict is.judged (not_three is.verdict (λ z. d (number ∙ z)))

  pub lap_short : (lap.low.len ≤ t.n) × (lap.high.len ≤ t.n)
  lap_short =
      let s = judged_short t is.verdict is.judged in
      (omega (arith, ap (λ (l : Lap). l.low.len) is.result), omega (arith, ap (λ (l : Lap). l.high.len) is.result))
