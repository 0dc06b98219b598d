-- Steps of the proofs of the calls.
--
--   Small r          == the ratio r is one whose cross products fit: at most 256,000,000 over at most 3,840, and over no zero
--   made_bid lap      == what the code makes of the engine's lap
--
-- Laws: bid_small, told_small (an end is small), bid_refused, bid_judged, bid_made (what each way out of `ends` hands back), choice-.. (of `chosen`),
-- better_made (of `better`).
use Prim.{tt}
use Rattle.std.specs.Prelude.{◌≡◌, refl, true, false, Result, Ok, Err, IfOk, List, ℕ, ◌≤◌, ◌<◌}
use Rattle.std.proofs.Common.{sym, ap, ◌∙◌, subst, arith, lt-ltb, le-ltb}
use Rattle.std.proofs.Math.Logic.{by_cases}
use Rattle.std.proofs.Math.Decide.{dec_lt}
use Rattle.refusals.specs.declared.Refusal.{Refusal}
use Rattle.model.specs.Answer.{Answer}
use Rattle.theory.specs.Wide.{period_limits}
use Rattle.table.specs.declared.Table.{Table}
use Rattle.table.specs.Meaning.{shape_of, within_fits, within_offsets, within_delays}
use Rattle.rulefile.specs.declared.FileRead.{FileRead}
use Rattle.rulefile.specs.File.{read_of}
use Rattle.engine.specs.declared.Ratio.{Ratio}
use Rattle.engine.specs.declared.Range.{Range}
use Rattle.engine.specs.Verdict.{Verdict, outside, knotted, flat, wide, found, Judges}
use Rattle.engine.specs.Lap.{Lap, LapOf, lap_of}
use Rattle.bids.specs.declared.Choice.{Choice}
use Rattle.bids.specs.declared.Choice.TheVariants.{Neither, First, Second}
use Rattle.bids.specs.Promise.{Bid, Laid, ratio, told_bid, refused_bid, judged_bid, TableBid, ReadBid, BidOf, lower, choice_of, LaidOf, File, Handed, BetterOf}

-- ------------------------------------------------------------------------------------------------------------------------------------- small ends

abbrev pub Small : Ratio → Type 0
Small r = (r.p ≤ 256000000) × (r.q ≤ 3840) × (0 < r.q)

found_small : (t : Table) (a : Answer) → Judges t (found a) → Small (ratio a.ends.high_p a.ends.high_q)
found_small t a j =
    let x = j.2.ends.high.attained in
    let most : (r : ℕ) → r < t.m → x.D r ≤ 1000000 = λ r b. omega (arith, x.fills r b, within_delays t j.0 r b) in
    let b = period_limits (shape_of t) x.D t.n a.ends.high_p a.ends.high_q j.0.n_high (within_fits t j.0) (within_offsets t j.0) most x.given x.lowest in
    (b.0, b.1, x.given.q_pos)

judged_small : (t : Table) (v : Verdict) → Judges t v → (judged_bid v).refusal ≡ 0 → Small (judged_bid v).high
judged_small t (outside k) j e = absurd (omega arith)
judged_small t (knotted u) j e = absurd (omega arith)
judged_small t flat j e = absurd (omega arith)
judged_small t wide j e = absurd (omega arith)
judged_small t (found a) j e = found_small t a j

-- AN END IS SMALL, so that its cross products fit 64 bits
pub bid_small : (s : List ℕ) (b : Bid) → BidOf s b → b.refusal ≡ 0 → Small b.high
bid_small s b x e =
    by_cases (dec_lt 0 (read_of s).refusal)
    (λ l. absurd (omega (arith, ap (λ (c : Bid). c.refusal) (x.refused l))))
    (λ l.
    let t = x.accepted (omega arith) in
    subst (λ (c : Bid). Small c.high) (sym t.result) (judged_small (read_of s).table t.verdict t.judged (sym (ap (λ (c : Bid). c.refusal) t.result) ∙ e)))

pub told_small : (s : List ℕ) (r : Result Range Refusal) → BidOf s (told_bid r) → IfOk r (λ x. Small x.high)
told_small s (Ok x) b = bid_small s (told_bid (Ok x)) b refl
told_small s (Err e) b = tt

-- --------------------------------------------------------------------------------------------------------------------------------------- one bid

abbrev pub made_bid : Lap → Bid
made_bid lap = record { refusal = 0; place = 0; exact = lap.exact; low = ratio lap.low.p lap.low.q; high = ratio lap.high.p lap.high.q }

refused_judged : (v : Verdict) → 0 < (lap_of v).refusal → judged_bid v ≡ refused_bid (lap_of v).refusal (lap_of v).place
refused_judged (outside k) b = refl
refused_judged (knotted u) b = refl
refused_judged flat b = refl
refused_judged wide b = refl
refused_judged (found a) b = absurd (omega arith)

made_judged : (v : Verdict) → (lap_of v).refusal ≤ 0 → judged_bid v ≡ made_bid (lap_of v)
made_judged (outside k) b = absurd (omega arith)
made_judged (knotted u) b = absurd (omega arith)
made_judged flat b = absurd (omega arith)
made_judged wide b = absurd (omega arith)
made_judged (found a) b = refl

-- the file is refused in reading
pub bid_refused : (s : List ℕ) (g : FileRead) (b : Bid) → g ≡ read_of s → 0 < g.refusal → b ≡ refused_bid g.refusal g.place → BidOf s b
bid_refused s g b e l is = subst (λ (h : FileRead). ReadBid h b) e (record { refused = λ l. is; accepted = λ k. absurd (omega arith) })

-- its table is judged
judged : (s : List ℕ) (g : FileRead) (b : Bid) → g ≡ read_of s → g.refusal ≤ 0 → TableBid g.table b → BidOf s b
judged s g b e l is = subst (λ (h : FileRead). ReadBid h b) e (record { refused = λ k. absurd (omega arith); accepted = λ k. is })

-- refused in analysis
pub bid_judged : (s : List ℕ) (g : FileRead) (lap : Lap) (b : Bid) → g ≡ read_of s → g.refusal ≤ 0 → LapOf g.table lap → 0 < lap.refusal
    → b ≡ refused_bid lap.refusal lap.place → BidOf s b
bid_judged s g lap b e l x k is =
    judged s g b e l (record {
      verdict = x.verdict;
      judged = x.judged;
      result =
          is ∙ ap (λ (a : Lap). refused_bid a.refusal a.place) x.result
          ∙ sym (refused_judged x.verdict (omega (arith, ap (λ (a : Lap). a.refusal) x.result)));
    })

-- analysed
pub bid_made : (s : List ℕ) (g : FileRead) (lap : Lap) → g ≡ read_of s → g.refusal ≤ 0 → LapOf g.table lap → lap.refusal ≤ 0 → BidOf s (made_bid lap)
bid_made s g lap e l x k =
    judged s g (made_bid lap) e l (record {
      verdict = x.verdict;
      judged = x.judged;
      result = ap made_bid x.result ∙ sym (made_judged x.verdict (omega (arith, ap (λ (a : Lap). a.refusal) x.result)));
    })

-- ------------------------------------------------------------------------------------------------------------------------------------- the choice

module _ (a b : Bid) where
  pub choice_neither : 0 < a.refusal → 0 < b.refusal → Neither ≡ choice_of a b
  choice_neither l k = simp (lt-ltb 0 a.refusal l, lt-ltb 0 b.refusal k)

  pub choice_only_second : 0 < a.refusal → b.refusal ≤ 0 → Second ≡ choice_of a b
  choice_only_second l k = simp (lt-ltb 0 a.refusal l, le-ltb 0 b.refusal k)

  pub choice_only_first : a.refusal ≤ 0 → 0 < b.refusal → First ≡ choice_of a b
  choice_only_first l k = simp (le-ltb 0 a.refusal l, lt-ltb 0 b.refusal k)

  pub choice_second : a.refusal ≤ 0 → b.refusal ≤ 0 → lower b a ≡ true → Second ≡ choice_of a b
  choice_second l k e = simp (le-ltb 0 a.refusal l, le-ltb 0 b.refusal k, e)

  pub choice_first : a.refusal ≤ 0 → b.refusal ≤ 0 → lower b a ≡ false → First ≡ choice_of a b
  choice_first l k e = simp (le-ltb 0 a.refusal l, le-ltb 0 b.refusal k, e)

-- what each way out of `better` hands back
pub better_made : (x y r : File) (l : Laid) (w f p : ℕ) → LaidOf x.now y.now l → (c : Choice) → l.choice ≡ c → Handed c l.first x y r w f p → BetterOf x y r w f p
better_made x y r l w f p is c e h =
    record {
      first = l.first;
      second = l.second;
      is_first = is.first;
      is_second = is.second;
      handed = subst (λ (c : Choice). Handed c l.first x y r w f p) (sym e ∙ is.choice) h;
    }
