-- UNUSED PLACES ARE NEVER LOOKED AT: tables with the same n, the same m and the same rules below m have the same outcomes of every call, whatever lies in their
-- other places.
--
--   SameRules t u        == t and u have the same n, m, and rules below m (table/Form)
--   check_unused, writing_unused, analysis_unused, rate_unused, simulation_unused     THE THEOREMS: an outcome for t is one for u
use Rattle.std.specs.Prelude.{◌≡◌, refl, List, [], ◌∷◌, ◌++◌, ℕ, zero, suc, ◌+◌, ◌*◌, ◌≤◌, ◌<◌, length, get_or, take, drop}
use Rattle.std.proofs.Common.{sym, ap, ◌∙◌, subst, inl, inr, arith}
use Rattle.std.proofs.Math.Path.{fun_ext}
use Rattle.std.proofs.Math.Logic.{by_cases}
use Rattle.std.proofs.Math.Decide.{dec_lt}
use Rattle.model.specs.Shape.{Shape}
use Rattle.model.specs.Loop.{NoLoop, Live}
use Rattle.model.specs.Knot.{Knot}
use Rattle.model.specs.Filling.{Ranges, ranges}
use Rattle.model.specs.Times.{Timed}
use Rattle.model.specs.Rate.{NoLoopTo, Rates}
use Rattle.model.specs.Answer.{Answer, Answers}
use Rattle.model.specs.Ends.{Range}
use Rattle.sevens.specs.Sevens.{code_of}
use Rattle.table.specs.declared.Delay.{Delay}
use Rattle.table.specs.declared.Delay.TheVariants.{Known, Unknown}
use Rattle.table.specs.declared.Rule.{Rule}
use Rattle.table.specs.declared.Table.{Table}
use Rattle.refusals.specs.Number.{Told}
use Rattle.table.specs.Limits.{max_delay}
use Rattle.table.specs.Form.{unused_rule, rule_of, SameRules}
use Rattle.table.specs.Fields.{Within, FirstBad, Judged}
use Rattle.table.specs.Meaning.{used, delay_meant, shape_of, ranges_of, Blank, used_rule}
use Rattle.rulefile.specs.File.{Written}
use Rattle.rates.specs.Rate.{Rated}
use Rattle.engine.specs.Verdict.{Verdict, outside, knotted, flat, wide, found, WideAt, Judges}
use Rattle.rulefile.specs.File.{rule_bytes, rules_bytes, file_of, refused_write, written_as, Writes}
use Rattle.period.specs.Promise.{Outcome, outcome_of, AnalysisOf}
use Rattle.rates.specs.Rate.{RateVerdict, bad_field, no_name, knot_at, unreached, too_wide, rated, JudgesRate, rated_of, RateOf}
use Rattle.simulation.specs.Simulation.{NoBlank, Refused, Answered, SimulationOf}
use Rattle.demands.specs.Exists.{Buffers}
use Rattle.demands.specs.Filled.{FilledDelay, Filled, bad_filled, within_filled}

-- past the rules in use there is none
past_used : (m : ℕ) (xs : List Rule) (r : ℕ) → m ≤ r → get_or (take m xs) r unused_rule ≡ unused_rule
past_used zero xs r b = refl
past_used (suc m) [] r b = refl
past_used (suc m) (x ∷ xs) zero b = absurd (omega arith)
past_used (suc m) (x ∷ xs) (suc r) b = past_used m xs r (omega arith)

delay_unfilled : (d e : Delay) → e ≡ d → FilledDelay d e
delay_unfilled d e h = subst (FilledDelay d) (sym h) (kept d)
  where
    kept : (d : Delay) → FilledDelay d d
    kept (Known d) = refl
    kept Unknown = tt

-- the same rules are those with no blank filled
same_filled : (t u : Table) → SameRules t u → Filled t u
same_filled t u s =
    record {
      n_same = s.same_n;
      m_same = s.same_m;
      rules = λ r b. let e = s.same_rule r b in record {
        source = ap (λ (x : Rule). x.source) e;
        target = ap (λ (x : Rule). x.target) e;
        offset = ap (λ (x : Rule). x.offset) e;
        delay = delay_unfilled _ _ (ap (λ (x : Rule). x.delay) e);
      };
    }

same_back : (t u : Table) → SameRules t u → SameRules u t
same_back t u s = record { same_n = sym s.same_n; same_m = sym s.same_m; same_rule = λ r b. sym (s.same_rule r (omega (arith, s.same_m))) }

module _ (t u : Table) (s : SameRules t u) where
  used_at : (r : ℕ) → get_or (used t) r unused_rule ≡ get_or (used u) r unused_rule
  used_at r =
      by_cases (dec_lt r t.m)
      (λ b. used_rule t r b ∙ sym (s.same_rule r b) ∙ sym (used_rule u r (omega (arith, s.same_m))))
      (λ b. past_used t.m t.rules r (omega arith) ∙ sym (past_used u.m u.rules r (omega (arith, s.same_m))))

  shape_same : shape_of t ≡ shape_of u
  shape_same =
      ap (λ (m : ℕ). record { rules = m; source = (shape_of t).source; target = (shape_of t).target; offset = (shape_of t).offset }) (sym s.same_m)
      ∙ ap (λ (g : ℕ → Rule). record { rules = u.m; source = λ r. (g r).source; target = λ r. (g r).target; offset = λ r. (g r).offset }) (fun_ext used_at)

  ranges_same : ranges_of t ≡ ranges_of u
  ranges_same = ap (λ (g : ℕ → Rule). ranges max_delay (λ r. delay_meant (g r).delay)) (fun_ext used_at)

  -- whatever is said of the rules, the delays and n
  moved : (P : Shape → Ranges → ℕ → Type 0) → P (shape_of t) (ranges_of t) t.n → P (shape_of u) (ranges_of u) u.n
  moved P x =
      subst (λ (n : ℕ). P (shape_of u) (ranges_of u) n) (sym s.same_n)
      (subst (λ (K : Ranges). P (shape_of u) K t.n) ranges_same (subst (λ (S : Shape). P S (ranges_of t) t.n) shape_same x))

  bad_same : (k : ℕ) → FirstBad t k → FirstBad u k
  bad_same = bad_filled t u (same_filled t u s)

  within_same : Within t → Within u
  within_same = within_filled t u (same_filled t u s)

  judges_same : (v : Verdict) → Judges t v → Judges u v
  judges_same (outside k) j = bad_same k j
  judges_same (knotted x) j = (within_same j.0, moved (λ S K n. Knot S x) j.1)
  judges_same flat j = (within_same j.0, moved (λ S K n. Live S) j.1, moved (λ S K n. NoLoop S) j.2)
  judges_same wide j = (within_same j.0, moved (λ S K n. Live S) j.1, moved (λ S K n. (a : Answer) × Answers S K n a × WideAt S K a.ends) j.2)
  judges_same (found a) j =
      (within_same j.0, moved (λ S K n. Live S) j.1, moved (λ S K n. Answers S K n a) j.2, moved (λ S K n. ¬ (WideAt S K a.ends)) j.3)

  rate_judges_same : (v : ℕ) (x : RateVerdict) → JudgesRate t v x → JudgesRate u v x
  rate_judges_same v (bad_field k) j = bad_same k j
  rate_judges_same v no_name j = (within_same j.0, omega (arith, j.1, s.same_n))
  rate_judges_same v (knot_at x) j = (within_same j.0, omega (arith, j.1, s.same_n), moved (λ S K n. Knot S x) j.2)
  rate_judges_same v unreached j = (within_same j.0, omega (arith, j.1, s.same_n), moved (λ S K n. Live S) j.2, moved (λ S K n. NoLoopTo S v) j.3)
  rate_judges_same v too_wide j =
      (within_same j.0, omega (arith, j.1, s.same_n), moved (λ S K n. Live S) j.2, moved (λ S K n. (a : Range) × Rates S K v a × WideAt S K a) j.3)
  rate_judges_same v (rated a) j =
      (within_same j.0, omega (arith, j.1, s.same_n), moved (λ S K n. Live S) j.2, moved (λ S K n. Rates S K v a) j.3, moved (λ S K n. ¬ (WideAt S K a)) j.4)

  blank_same : (r : ℕ) → Blank t r → Blank u r
  blank_same r b = (omega (arith, b.0, s.same_m), sym (ap (λ (x : Rule). x.delay) (used_at r)) ∙ b.1)

  rules_same : (left r : ℕ) → r + left ≤ t.m → rules_bytes t r left ≡ rules_bytes u r left
  unfolding rules_bytes
  rules_same zero r b = refl
  rules_same (suc left) r b =
      ap (λ (x : Rule). rule_bytes x ++ rules_bytes t (r + 1) left) (sym (s.same_rule r (omega arith))) ∙ ap (λ (xs : List ℕ). rule_bytes (rule_of u r) ++ xs) (rules_same left (r + 1) (omega arith))

  file_same : file_of t ≡ file_of u
  unfolding file_of
  file_same =
      ap (λ (xs : List ℕ). code_of t.n ++ code_of t.m ++ xs) (rules_same t.m 0 (omega arith))
      ∙ ap (λ (n : ℕ). code_of n ++ code_of t.m ++ rules_bytes u 0 t.m) (sym s.same_n)
      ∙ ap (λ (m : ℕ). code_of u.n ++ code_of m ++ rules_bytes u 0 m) (sym s.same_m)

module _ (t u : Table) (s : SameRules t u) where
  back : SameRules u t
  back = same_back t u s

  -- THE CHECK OF A TABLE
  pub check_unused : (x : Told) → Judged t x → Judged u x
  check_unused x (inl a) = inl (within_same t u s a.0, a.1, a.2)
  check_unused x (inr a) = inr (bad_same t u s x.place a.0, a.1)

  -- WRITING
  pub writing_unused : (out : List ℕ) (w : Written) (after : List ℕ) → Writes t out w after → Writes u out w after
  writing_unused out w after x =
      record {
        range = λ k b. x.range k (bad_same u t back k b);
        room = λ i. subst (λ (z : List ℕ). length out < length z → (w ≡ refused_write 8 (length z)) × (after ≡ out)) (file_same t u s) (x.room (within_same u t back i));
        written = λ i. subst (λ (z : List ℕ). length z ≤ length out → (w ≡ written_as (length z)) × (after ≡ z ++ drop (length z) out)) (file_same t u s) (x.written (within_same u t back i));
      }

  -- ANALYSIS
  pub analysis_unused : (b : Buffers) (o : Outcome) → AnalysisOf t b.schedule b.low b.high o → AnalysisOf u b.schedule b.low b.high o
  analysis_unused b o x =
      record { verdict = x.verdict; judged = judges_same t u s x.verdict x.judged; result = x.result ∙ ap (λ n. outcome_of n x.verdict b.schedule b.low b.high) (sym s.same_n) }

  -- A RATE
  pub rate_unused : (v : ℕ) (r : Rated) → RateOf t v r → RateOf u v r
  rate_unused v r x =
      record { verdict = x.verdict; judged = rate_judges_same t u s v x.verdict x.judged; result = x.result ∙ ap (λ n. rated_of n x.verdict) (sym s.same_n) }

  -- A SIMULATION
  pub simulation_unused : (N : ℕ) (out₀ : List ℕ) (r : Told) (out : List ℕ) → SimulationOf t N out₀ r out → SimulationOf u N out₀ r out
  simulation_unused N out₀ r out x =
      record {
        outside = λ k b. x.outside k (bad_same u t back k b);
        span = λ w d. x.span (within w) d;
        unknown = λ w n q f. x.unknown (within w) n q (record { blank = blank_same u t back q f.blank; before = λ p l b. f.before p l (blank_same t u s p b) });
        room = λ w n none. subst (λ (k : ℕ). length out₀ < k * N → Refused 8 (k * N) out₀ r out) (sym s.same_n) (x.room (within w) n (known none));
        loop = λ w n none l v k. x.loop (within w) n (known none) (roomy l) v (moved u t back (λ S K n. Knot S v) k);
        simulated = λ w n none l live. answered (x.simulated (within w) n (known none) (roomy l) (moved u t back (λ S K n. Live S) live));
      }
    where
      within : Within u → Within t
      within = within_same u t back

      known : NoBlank u → NoBlank t
      known none r b = none r (blank_same t u s r b)

      roomy : u.n * N ≤ length out₀ → t.n * N ≤ length out₀
      roomy l = subst (λ (k : ℕ). k * N ≤ length out₀) s.same_n l

      answered : Answered t N out₀ r out → Answered u N out₀ r out
      answered a =
          record {
            number = a.number;
            place = a.place;
            times = moved t u s (λ S K n. Timed S K.least N n out₀ out) a.times;
          }
