-- THERE IS AN OUTCOME of each of these calls, for every input: what the call hands back, of which what is told keeps the promise. That there is only
-- one is proved where the promises stand, and in Once.
--
--   Buffers             == the contents of the three lent buffers: the schedule's, the low loop's, the high loop's
--   DelaysAre t D       == the delay of every rule r of t is known, and is D r
--   known_least         where no delay is unknown, each is the least that it may be
--
--   the check of a table       judged_exists
--   writing                    writes_exists
--   an analysis                analysis_exists
--   a rate                     rated_exists
--   a simulation               simulation_exists
--   a bid, two bids, the better of two     bid_exists, laid_exists, better_exists
--   a report                   text_exists
use Prim.{Unit}
use Rattle.std.specs.Prelude.{◌≡◌, refl, Bool, true, false, Result, Ok, Err, List, [], ◌++◌, ℕ, ◌*◌, ◌≤◌, ◌<◌, length, get_or, drop, ltb}
use Rattle.std.proofs.Common.{sym, ap, subst, inl, inr, ⊎_elim, arith, mul_comm}
use Rattle.std.proofs.Math.Logic.{by_cases}
use Rattle.std.proofs.Math.Logic.Dec
use Rattle.std.proofs.Math.Decide.{dec_le, dec_lt}
use Rattle.model.specs.Loop.{Live}
use Rattle.model.specs.Knot.{Knot}
use Rattle.model.specs.Filling.{least_of}
use Rattle.theory.specs.Knot.{knot_unique, knot_not_live, knot_or_live}
use Rattle.table.specs.declared.Delay.{Delay}
use Rattle.table.specs.declared.Delay.TheVariants.{Known, Unknown}
use Rattle.table.specs.declared.Table.{Table}
use Rattle.refusals.specs.declared.Refusal.{Refusal}
use Rattle.refusals.specs.declared.Why.{Why}
use Rattle.refusals.specs.declared.Why.TheVariants.{Range, Loop, Flat, Room, Span as OutOfSpan, Name, Unknown as Blank}
use Rattle.refusals.specs.Number.{number_of, number_positive, told}
use Rattle.table.specs.Limits.{min_occurrences, max_occurrences}
use Rattle.table.specs.Form.{unused_rule}
use Rattle.table.specs.Fields.{Within, FirstBad, Judged, within_or_first_bad, within_not_bad, first_bad_unique}
use Rattle.table.specs.Meaning.{used, delay_meant, shape_of, ranges_of, within_fits}
use Rattle.rulefile.specs.declared.FileRead.{FileRead}
use Rattle.rulefile.specs.File.{file_of, read_of, told_read, refused_write, told_written, Writes}
use Rattle.engine.specs.declared.Range.{Range as Ends}
use Rattle.engine.specs.Verdict.{Verdict, outside, knotted, flat, wide, found, Judges, never_wide_at, verdict_exists}
use Rattle.period.specs.declared.Analysis.{Analysis}
use Rattle.period.specs.Promise.{pick, Outcome, outcome, told_analysis, end_of, into, judged_outcome, is_outside, room_for, outcome_of, AnalysisOf}
use Rattle.rates.specs.Rate.{RateVerdict, bad_field, no_name, knot_at, unreached, too_wide, rated, JudgesRate, rate_never_wide, rate_verdict_exists, told_rate, rated_of, RateOf}
use Rattle.simulation.specs.Simulation.{delays, Span, NoBlank, FirstBlank, Refused, SimulationOf, no_or_first_blank}
use Rattle.bids.specs.declared.Laid.{Laid}
use Rattle.bids.specs.declared.Choice.{Choice}
use Rattle.bids.specs.declared.Choice.TheVariants.{Neither, First, Second}
use Rattle.bids.specs.Promise.{Bid, told_bid, judged_bid, ReadBid, BidOf, choice_of, told_laid, LaidOf, File, Handed, BetterOf}
use Rattle.words.specs.Lines.{refused_line_of}
use Rattle.text.specs.Text.{verdict_text, FileText}
use Rattle.demands.specs.Reading.{refusal, file_exists}
use Rattle.demands.specs.Timed.{timed_exists}

-- ------------------------------------------------------------------------------------------------------------------------------- tables and files

-- THE CHECK OF A TABLE
pub judged_exists : (t : Table) → (x : Result Unit Refusal) × Judged t (told x)
judged_exists t = ⊎_elim (λ w. (Ok tt, inl (w, refl, refl))) (λ b. (Err (refusal Range b.0), inr (b.1, refl))) (within_or_first_bad t)

-- WRITING
pub writes_exists : (t : Table) (out : List ℕ) → (w : Result ℕ Refusal) × (after : List ℕ) × Writes t out (told_written w) after
writes_exists t out =
    ⊎_elim
    (λ i. by_cases (dec_lt (length out) (length (file_of t)))
    (λ l. (Err (refusal Room (length (file_of t))), out, record { range = λ k f. absurd (within_not_bad t k i f); room = λ w g. (refl, refl); written = λ w g. absurd (omega arith) }))
    (λ l. (Ok (length (file_of t)), file_of t ++ drop (length (file_of t)) out, record { range = λ k f. absurd (within_not_bad t k i f); room = λ w g. absurd (omega arith); written = λ w g. (refl, refl) })))
    (λ b. (
      Err (refusal Range b.0),
      out,
      record {
        range = λ k f. (ap (refused_write 3) (first_bad_unique t b.0 k b.1 f), refl);
        room = λ w. absurd (within_not_bad t b.0 w b.1);
        written = λ w. absurd (within_not_bad t b.0 w b.1);
      },
    ))
    (within_or_first_bad t)

-- ---------------------------------------------------------------------------------------------------------------------------- analysis and rates

pub record Buffers : Type 0 where
  pub schedule : List ℕ
  pub low : List ℕ
  pub high : List ℕ

abbrev pub buffers : List ℕ → List ℕ → List ℕ → Buffers
buffers x l h = record { schedule = x; low = l; high = h }

-- as `picked` (Reading), of the choice that an outcome is made by
either : {A : Type 0} (P : A → Type 0) (c : Bool) (x y : A) → P x → P y → P (pick c x y)
either P true x y a b = a
either P false x y a b = b

-- an outcome of which the result is told by what a call may hand back
abbrev HandedBack : Outcome → Type 0
HandedBack o = (r : Result Analysis Refusal) × (after : Buffers) × (o ≡ outcome (told_analysis r) after.schedule after.low after.high)

module _ (t : Table) (b : Buffers) where
  refuses_with : (w : Why) (p : ℕ) → HandedBack (outcome (told_analysis (Err (refusal w p))) b.schedule b.low b.high)
  refuses_with w p = (Err (refusal w p), b, refl)

  judged : (v : Verdict) → Judges t v → HandedBack (judged_outcome v b.schedule b.low b.high)
  judged (outside k) j = refuses_with Range k
  judged (knotted u) j = refuses_with Loop u
  judged flat j = refuses_with Flat 0
  judged wide j = absurd (never_wide_at t j.0 j.2.0 j.2.1 j.2.2)
  judged (found a) j = (
    Ok (record {
      exact = a.ends.exact;
      low = end_of a.ends.low_p a.ends.low_q (length a.low_loop);
      high = end_of a.ends.high_p a.ends.high_q (length a.high_loop);
    }),
    buffers (into a.schedule b.schedule) (into a.low_loop b.low) (into a.high_loop b.high),
    refl,
  )

  roomy : (v : Verdict) → Judges t v → HandedBack (room_for t.n v b.schedule b.low b.high)
  roomy v j =
      either HandedBack (ltb (length b.schedule) t.n) _ _ (refuses_with Room t.n)
      (either HandedBack (ltb (length b.low) t.n) _ _ (refuses_with Room t.n)
      (either HandedBack (ltb (length b.high) t.n) _ _ (refuses_with Room t.n) (judged v j)))

  -- AN ANALYSIS
  pub analysis_exists : (r : Result Analysis Refusal) × (after : Buffers) × AnalysisOf t b.schedule b.low b.high (outcome (told_analysis r) after.schedule after.low after.high)
  analysis_exists =
      let (v, j) = verdict_exists t in
      let (r, after, e) = either HandedBack (is_outside v) _ _ (judged v j) (roomy v j) in
      (r, after, record { verdict = v; judged = j; result = sym e })

-- A RATE
pub rated_exists : (t : Table) (v : ℕ) → (r : Result Ends Refusal) × RateOf t v (told_rate r)
rated_exists t v = let (x, j) = rate_verdict_exists t v in at x j
  where
    at : (x : RateVerdict) → JudgesRate t v x → (r : Result Ends Refusal) × RateOf t v (told_rate r)
    at (bad_field k) j = (Err (refusal Range k), record { verdict = bad_field k; judged = j; result = refl })
    at no_name j = (Err (refusal Name t.n), record { verdict = no_name; judged = j; result = refl })
    at (knot_at u) j = (Err (refusal Loop u), record { verdict = knot_at u; judged = j; result = refl })
    at unreached j = (Err (refusal Flat 0), record { verdict = unreached; judged = j; result = refl })
    at too_wide j = absurd (rate_never_wide t j.0 v j.1 j.3.0 j.3.1 j.3.2)
    at (rated a) j = (
      Ok (record { exact = a.exact; low = record { p = a.low_p; q = a.low_q }; high = record { p = a.high_p; q = a.high_q } }),
      record { verdict = rated a; judged = j; result = refl },
    )

-- ---------------------------------------------------------------------------------------------------------------------------------- a simulation

abbrev pub DelaysAre : Table → (ℕ → ℕ) → Type 0
DelaysAre t D = (r : ℕ) → r < t.m → (get_or (used t) r unused_rule).delay ≡ Known (D r)

pub known_least : (t : Table) → NoBlank t → DelaysAre t (ranges_of t).least
known_least t none r l = at (get_or (used t) r unused_rule).delay (λ e. none r (l, e))
  where
    at : (d : Delay) → ¬ (d ≡ Unknown) → d ≡ Known (least_of (delay_meant d))
    at Unknown h = absurd (h refl)
    at (Known d) h = refl

first_blank_unique : (t : Table) (q r : ℕ) → FirstBlank t q → FirstBlank t r → q ≡ r
first_blank_unique t q r a b =
    by_cases (dec_lt q r) (λ l. absurd (b.before q l a.blank)) (λ l. by_cases (dec_lt r q) (λ m. absurd (a.before r m b.blank)) (λ m. omega arith))

module _ (t : Table) (N : ℕ) (out₀ : List ℕ) where
  abbrev SomeOutcome : Type 0
  SomeOutcome = (r : Result Unit Refusal) × (out : List ℕ) × SimulationOf t N out₀ (told r) out

  abbrev refused_by : Why → ℕ → Result Unit Refusal
  refused_by w p = Err (refusal w p)

  refuses : (w : Why) (p q : ℕ) → p ≡ q → Refused (number_of w) q out₀ (told (refused_by w p)) out₀
  refuses w p q e = record { number = refl; place = e; kept = refl }

  -- A SIMULATION: each of the six cases shuts out the other five
  pub simulation_exists : (r : Result Unit Refusal) × (out : List ℕ) × SimulationOf t N out₀ (told r) out
  simulation_exists = ⊎_elim within (λ k. bad k.0 k.1) (within_or_first_bad t)
    where
      bad : (k : ℕ) → FirstBad t k → SomeOutcome
      bad k b = (
        refused_by Range k,
        out₀,
        record {
          outside = λ j c. refuses Range k j (first_bad_unique t k j b c);
          span = λ w. absurd (within_not_bad t k w b);
          unknown = λ w. absurd (within_not_bad t k w b);
          room = λ w. absurd (within_not_bad t k w b);
          loop = λ w. absurd (within_not_bad t k w b);
          simulated = λ w. absurd (within_not_bad t k w b);
        },
      )

      turning : Within t → Span N → NoBlank t → t.n * N ≤ length out₀ → Live (shape_of t) → SomeOutcome
      turning w n none room live =
          let (out, x) = timed_exists (shape_of t) (delays t) N t.n (within_fits t w) live out₀ (omega (arith, mul_comm t.n N)) in (
            Ok tt,
            out,
            record {
              outside = λ j c. absurd (within_not_bad t j w c);
              span = λ v d. absurd (d n);
              unknown = λ v s q f. absurd (none q f.blank);
              room = λ v s b l. absurd (omega arith);
              loop = λ v s b l u k. absurd (knot_not_live (shape_of t) u k live);
              simulated = λ v s b l h. record { number = refl; place = refl; times = x };
            },
          )

      knotted : Within t → Span N → NoBlank t → t.n * N ≤ length out₀ → (u : ℕ) → Knot (shape_of t) u → SomeOutcome
      knotted w n none room u k = (
        refused_by Loop u,
        out₀,
        record {
          outside = λ j c. absurd (within_not_bad t j w c);
          span = λ v d. absurd (d n);
          unknown = λ v s q f. absurd (none q f.blank);
          room = λ v s b l. absurd (omega arith);
          loop = λ v s b l x h. refuses Loop u x (knot_unique (shape_of t) u x k h);
          simulated = λ v s b l h. absurd (knot_not_live (shape_of t) u k h);
        },
      )

      short : Within t → Span N → NoBlank t → length out₀ < t.n * N → SomeOutcome
      short w n none l = (
        refused_by Room (t.n * N),
        out₀,
        record {
          outside = λ j c. absurd (within_not_bad t j w c);
          span = λ v d. absurd (d n);
          unknown = λ v s q f. absurd (none q f.blank);
          room = λ v s b h. refuses Room (t.n * N) (t.n * N) refl;
          loop = λ v s b h. absurd (omega arith);
          simulated = λ v s b h. absurd (omega arith);
        },
      )

      blank : Within t → Span N → (q : ℕ) → FirstBlank t q → SomeOutcome
      blank w n q f = (
        refused_by Blank q,
        out₀,
        record {
          outside = λ j c. absurd (within_not_bad t j w c);
          span = λ v d. absurd (d n);
          unknown = λ v s x g. refuses Blank q x (first_blank_unique t q x f g);
          room = λ v s b. absurd (b q f.blank);
          loop = λ v s b. absurd (b q f.blank);
          simulated = λ v s b. absurd (b q f.blank);
        },
      )

      unspanned : Within t → ¬ (Span N) → SomeOutcome
      unspanned w d = (
        refused_by OutOfSpan 0,
        out₀,
        record {
          outside = λ j c. absurd (within_not_bad t j w c);
          span = λ v e. refuses OutOfSpan 0 0 refl;
          unknown = λ v s. absurd (d s);
          room = λ v s. absurd (d s);
          loop = λ v s. absurd (d s);
          simulated = λ v s. absurd (d s);
        },
      )

      given : Within t → Span N → NoBlank t → SomeOutcome
      given w n none =
          by_cases (dec_lt (length out₀) (t.n * N)) (short w n none)
          (λ l. let room : t.n * N ≤ length out₀ = omega arith in
          ⊎_elim (λ k. knotted w n none room k.0 k.1) (turning w n none room) (knot_or_live (shape_of t) t.n (within_fits t w)))

      within : Within t → SomeOutcome
      within w =
          by_cases (Dec.and (dec_le min_occurrences N) (dec_le N max_occurrences))
          (λ n. ⊎_elim (given w n) (λ q. blank w n q.0 q.1) (no_or_first_blank t)) (unspanned w)

-- ------------------------------------------------------------------------------------------------------------------------------------------ bids

ends_told : (t : Table) (v : Verdict) → Judges t v → (b : Result Ends Refusal) × (told_bid b ≡ judged_bid v)
ends_told t (outside k) j = (Err (refusal Range k), refl)
ends_told t (knotted u) j = (Err (refusal Loop u), refl)
ends_told t flat j = (Err (refusal Flat 0), refl)
ends_told t wide j = absurd (never_wide_at t j.0 j.2.0 j.2.1 j.2.2)
ends_told t (found a) j =
    (Ok (record { exact = a.ends.exact; low = record { p = a.ends.low_p; q = a.ends.low_q }; high = record { p = a.ends.high_p; q = a.ends.high_q } }), refl)

-- A BID
pub bid_exists : (s : List ℕ) → (b : Result Ends Refusal) × BidOf s (told_bid b)
bid_exists s = let (r, e) = file_exists s in at r e
  where
    at : (r : Result Table Refusal) → told_read r ≡ read_of s → (b : Result Ends Refusal) × BidOf s (told_bid b)
    at (Err e) f = (
      Err e,
      subst (λ (g : FileRead). ReadBid g (told_bid (Err e))) f (record { refused = λ l. refl; accepted = λ l. absurd (omega (arith, number_positive e.why)) }),
    )
    at (Ok t) f =
        let (v, j) = verdict_exists t in
        let (b, g) = ends_told t v j in
        (b, subst (λ (g : FileRead). ReadBid g (told_bid b)) f (record { refused = λ l. absurd (omega arith); accepted = λ l. record { verdict = v; judged = j; result = g } }))

-- TWO BIDS SIDE BY SIDE
pub laid_exists : (s t : List ℕ) → (l : Laid) × LaidOf s t (told_laid l)
laid_exists s t =
    let (a, x) = bid_exists s in
    let (b, y) = bid_exists t in
    (record { first = a; second = b; choice = choice_of (told_bid a) (told_bid b) }, record { first = x; second = y; choice = refl })

-- THE BETTER OF TWO: the empty part at the first file's start is a part
pub better_exists : (x y : File) → (r : File) × (w : ℕ) × (f : ℕ) × (p : ℕ) × BetterOf x y r w f p
better_exists x y = at (choice_of a b) refl
  where
    a : Bid
    a = told_bid (bid_exists x.now).0

    b : Bid
    b = told_bid (bid_exists y.now).0

    made : (r : File) (w f p : ℕ) → Handed (choice_of a b) a x y r w f p → BetterOf x y r w f p
    made r w f p h = record { first = a; second = b; is_first = (bid_exists x.now).1; is_second = (bid_exists y.now).1; handed = h }

    at : (c : Choice) → choice_of a b ≡ c → (r : File) × (w : ℕ) × (f : ℕ) × (p : ℕ) × BetterOf x y r w f p
    at Neither e =
        let z : File = record { ref_ptr = x.ref_ptr; now = [] } in
        (z, 0, a.refusal, a.place, made z 0 a.refusal a.place (subst (λ (c : Choice). Handed c a x y z 0 a.refusal a.place) (sym e) (refl, refl, refl, refl, refl)))
    at First e = (x, 0, 0, 0, made x 0 0 0 (subst (λ (c : Choice). Handed c a x y x 0 0 0) (sym e) (refl, refl, refl, refl)))
    at Second e = (y, 1, 0, 0, made y 1 0 0 (subst (λ (c : Choice). Handed c a x y y 1 0 0) (sym e) (refl, refl, refl, refl)))

-- ---------------------------------------------------------------------------------------------------------------------------------------- a report

-- A TEXT FOR EVERY FILE
pub text_exists : (s : List ℕ) → (x : List ℕ) × FileText s x
text_exists s =
    by_cases (dec_lt 0 (read_of s).refusal)
    (λ l. (refused_line_of (read_of s).refusal (read_of s).place, record { refused = λ g. refl; accepted = λ g. absurd (omega arith) }))
    (λ l.
    let (v, j) = verdict_exists (read_of s).table in
    (verdict_text v, record { refused = λ g. absurd (omega arith); accepted = λ g. record { verdict = v; judged = j; result = refl } }))
