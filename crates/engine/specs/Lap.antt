-- What the engine hands back for a verdict.
--
--   refused_lap f p     == refused with number f at place p: all else 0
--   end_of p q loop     == one end and its loop, padded with zeros to 256 places
--   answered_lap a      == the answer a, its schedule padded likewise
--   told_lap r          == what is told by what the engine hands back
--   lap_of v            == what is handed back for the verdict v: numbers of refusal are the paper's
--   LapOf t r          == THE PROMISE of `lap`; lap_unique: it has one outcome
--   Sided, LapIn       == what the parts of it promise on columns
use Rattle.std.specs.Prelude.{Option, Result, Ok, Err, ◌≡◌, refl, Bool, false, ◌≢◌, List, [], ◌∷◌, ◌++◌, ℕ, zero, suc, ◌+◌, ◌-◌, ◌≤◌, ◌<◌, length, get_or, set, take, replicate}
use Rattle.std.proofs.Common.{sym, ap, ◌∙◌, subst, arith, add-one, length-take, get_or-take}
use Rattle.model.specs.Shape.{Shape, Fits}
use Rattle.model.specs.Loop.{NoLoop, Live}
use Rattle.model.specs.Knot.{Knot}
use Rattle.model.specs.Ratio.{Lowest}
use Rattle.model.specs.Period.{Period}
use Rattle.model.specs.Filling.{Ranges}
use Rattle.model.specs.Schedule.{Keeps, LeastSchedule}
use Rattle.model.specs.Reported.{Reported}
use Rattle.model.specs.Ends.{Exact}
use Rattle.model.specs.Answer.{Answer, Answers}
use Rattle.theory.specs.Schedule.{TightRule}
use Rattle.theory.specs.Filling.{Proper}
use Rattle.theory.specs.Ends.{period_steady, range_is}
use Rattle.theory.specs.Knot.{first_knot, none_live}
use Rattle.theory.specs.Climb.{Climbed, climbed_none, climbed_period, climbed_reported, climbed_schedule}
use Rattle.theory.specs.Same.{period_same, reported_same, schedule_same, answers_same}
use Rattle.table.specs.declared.Table.{Table}
use Rattle.table.specs.Fields.{Within, FirstBad}
use Rattle.table.specs.Meaning.{shape_of, ranges_of}
use Rattle.columns.specs.Columns.{shape, delay_at}
use Rattle.columns.specs.declared.Columns.{Columns}
use Rattle.columns.specs.declared.rules.Rules.{Rules}
use Rattle.columns.specs.declared.rules.Filled.{Filled}
use Rattle.columns.specs.Views.{of_columns, of_rules, of_filled, delays_of}
use Rattle.loops.specs.declared.first.Found.{Found}
use Rattle.loops.specs.Told.{len_of, at_of, rules_of}
use Rattle.search.specs.Search.{Reached}
use Rattle.loops.specs.Found.{FoundFirst}
use Rattle.columns.specs.Lay.{Laid, laid_shape, laid_least, laid_greatest}
use Rattle.engine.specs.declared.End.{End}
use Rattle.engine.specs.declared.Lap.{Lap as Given}
use Rattle.refusals.specs.declared.Refusal.{Refusal}
use Rattle.refusals.specs.Number.{number_of}
use Rattle.engine.specs.Verdict.{Verdict, outside, knotted, flat, wide, found, Judges, never_wide_at, verdict_unique}

-- zeros up to 256 places
abbrev pub padded : List ℕ → List ℕ
padded xs = xs ++ replicate (256 - length xs) 0

abbrev pub end_of : ℕ → ℕ → List ℕ → End
end_of p q loop = record { p = p; q = q; len = length loop; rules = padded loop }

-- what is told of a table: number 0 and place 0 with its lap, or the number and the place of a refusal, and all else 0
pub record Lap : Type 0 where
  pub refusal : ℕ
  pub place : ℕ
  pub exact : Bool
  pub low : End
  pub high : End
  pub schedule : List ℕ

abbrev pub refused_lap : ℕ → ℕ → Lap
refused_lap f p = record { refusal = f; place = p; exact = false; low = end_of 0 0 []; high = end_of 0 0 []; schedule = padded [] }

-- what is told by what the engine hands back
abbrev pub told_lap : Result Given Refusal → Lap
told_lap (Ok x) = record { refusal = 0; place = 0; exact = x.exact; low = x.low; high = x.high; schedule = x.schedule }
told_lap (Err e) = refused_lap (number_of e.why) e.place

abbrev pub answered_lap : Answer → Lap
answered_lap a =
    record { refusal = 0; place = 0; exact = a.ends.exact; low = end_of a.ends.low_p a.ends.low_q a.low_loop; high = end_of a.ends.high_p a.ends.high_q a.high_loop; schedule = padded a.schedule }

abbrev pub lap_of : Verdict → Lap
lap_of (outside k) = refused_lap 3 k
lap_of (knotted u) = refused_lap 5 u
lap_of flat = refused_lap 6 0
lap_of wide = refused_lap 11 0
lap_of (found a) = answered_lap a

-- ---------------------------------------------------------------------------------------------------------------------------------------- laws

-- one place more is copied
pub copied_next : (i : ℕ) (xs : List ℕ) (k : ℕ) → i < length xs → set (take i xs ++ replicate (suc k) 0) i (get_or xs i 0) ≡ take (suc i) xs ++ replicate k 0
copied_next zero [] k b = absurd (omega arith)
copied_next zero (x ∷ xs) k b = refl
copied_next (suc i) [] k b = absurd (omega arith)
copied_next (suc i) (x ∷ xs) k b = ap (λ l. x ∷ l) (copied_next i xs k (omega arith))

pub numbers_next : (i x : ℕ) (xs ys : List ℕ) → length xs ≡ 256 → i < 256 → ys ≡ take i xs ++ replicate (256 - i) 0 → x ≡ get_or xs i 0 → set ys i x ≡ take (i + 1) xs ++ replicate (256 - (i + 1)) 0
numbers_next i x xs ys size b e v =
    let one : 256 - i ≡ suc (256 - suc i) = omega arith in
    rw (e, v, add-one i, one) (copied_next i xs (256 - suc i) (omega arith))

-- ------------------------------------------------------------------------------------------------------------------------------------ one side

-- one side of the answer: delays D, its ratio p/q, its loop the first len of rules, its values x
pub record Sided (S : Shape) (D : ℕ → ℕ) (n p q len : ℕ) (rules x : List ℕ) : Type 0 where
  pub short : len ≤ n
  pub size : length x ≡ 256
  pub rest : (v : ℕ) → n ≤ v → get_or x v 0 ≡ 0
  pub none : len ≡ 0 → NoLoop S
  pub period : 0 < len → Period S D p q
  pub lowest : 0 < len → Lowest p q
  pub at : ℕ
  pub reported : 0 < len → Reported S D p q at (take len rules)
  pub schedule : LeastSchedule S D n p q (take n x)

-- past the first n places the least values are 0: the values without them keep every rule too
past_zero : (S : Shape) (D : ℕ → ℕ) (n P Q : ℕ) (X : List ℕ) → Fits S n → Climbed S D P Q X → (v : ℕ) → n ≤ v → get_or X v 0 ≡ 0
past_zero S D n P Q X fits c v b = omega (arith, c.least (take n X) keeps v, none n X v b)
  where
    keeps : Keeps S D P Q (take n X)
    keeps r l = omega (arith, c.keeps r l, get_or-take n X (S.source r) 0 (fits r l).0, get_or-take n X (S.target r) 0 (fits r l).1)

    none : (n : ℕ) (X : List ℕ) (v : ℕ) → n ≤ v → get_or (take n X) v 0 ≡ 0
    none zero X v b = refl
    none (suc n) [] v b = refl
    none (suc n) (x ∷ X) zero b = absurd (omega arith)
    none (suc n) (x ∷ X) (suc v) b = none n X v (omega arith)

-- the climb, and the first loop of tight rules, make a side
pub sided : (S : Shape) (D : ℕ → ℕ) (n P Q len at : ℕ) (rules X : List ℕ) → Fits S n → n ≤ 256 → Live S → Reached S D P Q X
    → FoundFirst S (TightRule S D P Q X) n len at rules → Sided S D n P Q len rules X
sided S D n P Q len at rules X fits few live c f =
    record {
      short = f.short;
      size = c.size;
      rest = past_zero S D n P Q X fits c.climbed;
      none = λ e. climbed_none S D P Q X c.climbed (f.none e);
      period = λ b. climbed_period S D P Q X c.climbed live (record { at = at; loop = take len rules; is_loop = (f.some b).is_one.is_loop });
      lowest = λ b. c.climbed.lowest;
      at = at;
      reported = λ b. climbed_reported S D P Q X c.climbed at (take len rules) (f.some b);
      schedule = climbed_schedule S D P Q X c.climbed n fits (omega (arith, c.size));
    }

-- and the same side for delays that agree
pub sided_same : (S : Shape) (D E : ℕ → ℕ) → ((r : ℕ) → r < S.rules → D r ≡ E r) → (n p q len : ℕ) (rules x : List ℕ) → Sided S D n p q len rules x → Sided S E n p q len rules x
sided_same S D E same n p q len rules x s =
    record {
      short = s.short;
      size = s.size;
      rest = s.rest;
      none = s.none;
      period = λ b. period_same S D E same p q (s.period b);
      lowest = s.lowest;
      at = s.at;
      reported = λ b. reported_same S D E same p q s.at (take len rules) (s.reported b);
      schedule = schedule_same S D E same n p q (take n x) s.schedule;
    }

-- ---------------------------------------------------------------------------------------------------------------------------------- both sides

-- the answer that two sides make
abbrev pub answer_of : ℕ → ℕ → ℕ → ℕ → List ℕ → ℕ → ℕ → ℕ → List ℕ → List ℕ → Bool → Answer
answer_of n p q l ls P Q h hs x e =
    record { ends = record { low_p = p; low_q = q; high_p = P; high_q = Q; exact = e }; low_loop = take l ls; high_loop = take h hs; schedule = take n x }

-- TWO SIDES MAKE THE ANSWER
pub sides_answer : (S : Shape) (K : Ranges) → Proper S K → (n p q l P Q h : ℕ) (ls xs hs x : List ℕ) (e : Bool) → 0 < l → 0 < h
    → Sided S K.least n p q l ls xs → Sided S K.greatest n P Q h hs x → Exact p q P Q e → Answers S K n (answer_of n p q l ls P Q h hs x e)
sides_answer S K proper n p q l P Q h ls xs hs x e lb hb low high m =
    record {
      ends = range_is S K (Period S) (period_steady S) proper p q P Q e (low.period lb) (low.lowest lb) (high.period hb) (high.lowest hb) m;
      low_at = low.at;
      low_loop = low.reported lb;
      high_at = high.at;
      high_loop = high.reported hb;
      schedule = high.schedule;
    }

-- ---------------------------------------------------------------------------------------------------------------------------------- on columns

-- the ranges that two columns of delays say
abbrev pub ranges_in : List ℕ → List ℕ → Ranges
ranges_in least greatest = record { least = delay_at least; greatest = delay_at greatest }

-- the verdict on rules within their limits
abbrev pub JudgesIn : Shape → Ranges → ℕ → Verdict → Type 0
JudgesIn S K n (outside k) = ⊥
JudgesIn S K n (knotted u) = Knot S u
JudgesIn S K n flat = Live S × NoLoop S
JudgesIn S K n wide = ⊥
JudgesIn S K n (found a) = Live S × Answers S K n a

pub record LapIn (S : Shape) (K : Ranges) (n : ℕ) (r : Lap) : Type 0 where
  pub verdict : Verdict
  pub judged : JudgesIn S K n verdict
  pub result : r ≡ lap_of verdict

-- what was found of the rules of the columns, and what was measured with one of their two delays, is said of the columns
pub zero_columns : (c : Columns) (r : Rules) → (r.source.now ≡ c.source) × (r.target.now ≡ c.target) × (r.offset.now ≡ c.offset) → (r.m ≡ c.m) × (r.n ≡ c.n)
    → (f : Option Found) → FoundFirst (of_rules r) (λ i. get_or r.offset.now i 0 ≡ 0) r.n (len_of f) (at_of f) (rules_of f)
    → FoundFirst (of_columns c) (λ i. get_or c.offset i 0 ≡ 0) c.n (len_of f) (at_of f) (rules_of f)
zero_columns c r e z f h = rw (e.0, e.1, e.2, z.0, z.1) at h

pub sided_columns : (c : Columns) (r : Filled) → (r.source.now ≡ c.source) × (r.target.now ≡ c.target) × (r.offset.now ≡ c.offset) → (delay : List ℕ) → r.delay.now ≡ delay
    → (r.m ≡ c.m) × (r.n ≡ c.n) → (p q len : ℕ) (rules x : List ℕ) → Sided (of_filled r) (delays_of r) r.n p q len rules x → Sided (of_columns c) (delay_at delay) c.n p q len rules x
sided_columns c r e delay d z p q len rules x h = rw (e.0, e.1, e.2, d, z.0, z.1) at h

pub live_columns : (c : Columns) (r : Filled) → (r.source.now ≡ c.source) × (r.target.now ≡ c.target) × (r.offset.now ≡ c.offset) → (r.m ≡ c.m) × (r.n ≡ c.n)
    → Live (of_columns c) → Live (of_filled r)
live_columns c r e z h = rw (e.0, e.1, e.2, z.0) h

pub none_columns : (c : Columns) (r : Filled) → (r.source.now ≡ c.source) × (r.target.now ≡ c.target) × (r.offset.now ≡ c.offset) → (r.m ≡ c.m) × (r.n ≡ c.n)
    → NoLoop (of_filled r) → NoLoop (of_columns c)
none_columns c r e z h = rw (e.0, e.1, e.2, z.0) at h

-- the three ways in which the analysis on columns ends
module _ {S : Shape} {K : Ranges} {n : ℕ} {r : Lap} where
  pub ends_knotted : {len at : ℕ} {rules : List ℕ} → FoundFirst S (λ i. S.offset i ≡ 0) n len at rules → 0 < len → r ≡ refused_lap 5 at → LapIn S K n r
  ends_knotted {at = at} {rules = rules} f b e = record { verdict = knotted at; judged = first_knot S at _ (f.some b); result = e }

  pub ends_flat : Live S → NoLoop S → r ≡ refused_lap 6 0 → LapIn S K n r
  ends_flat live none e = record { verdict = flat; judged = (live, none); result = e }

  pub ends_answered : {p q l P Q h : ℕ} {ls xs hs x : List ℕ} {e : Bool} → Proper S K → Live S → Sided S K.least n p q l ls xs → Sided S K.greatest n P Q h hs x → l ≢ 0 → Exact p q P Q e
      → r ≡ answered_lap (answer_of n p q l ls P Q h hs x e) → LapIn S K n r
  ends_answered {p} {q} {l} {P} {Q} {h} {ls} {xs} {hs} {x} {e} proper live low high some m is =
      let lb : 0 < l = omega arith in
      let hb : 0 < h = above h (λ z. high.none z (low.period lb).at (low.period lb).loop (low.period lb).is_loop) in
      record { verdict = found (answer_of n p q l ls P Q h hs x e); judged = (live, sides_answer S K proper n p q l P Q h ls xs hs x e lb hb low high m); result = is }
    where
      above : (h : ℕ) → (h ≡ 0 → ⊥) → 0 < h
      above h f = omega arith

-- no loop of rules of offset 0
pub ends_live : {S : Shape} {n len at : ℕ} {rules : List ℕ} → FoundFirst S (λ i. S.offset i ≡ 0) n len at rules → len ≤ 0 → Live S
ends_live {S} f b = none_live S (λ u rs l a. f.none (omega arith) u rs (record { is_loop = l; kind = a }))

-- THE PROMISE OF `lap`: what is handed back for the verdict on the table
pub record LapOf (t : Table) (r : Lap) : Type 0 where
  pub verdict : Verdict
  pub judged : Judges t verdict
  pub result : r ≡ lap_of verdict

-- ONLY ONE OUTCOME
pub lap_unique : (t : Table) (r s : Lap) → LapOf t r → LapOf t s → r ≡ s
lap_unique t r s a b = a.result ∙ ap lap_of (verdict_unique t a.verdict b.verdict a.judged b.judged) ∙ sym b.result

-- the verdict on the columns is the verdict on the table
judges_table : (t : Table) → Within t → (K : Ranges) → ((r : ℕ) → r < t.m → K.least r ≡ (ranges_of t).least r) → ((r : ℕ) → r < t.m → K.greatest r ≡ (ranges_of t).greatest r)
    → (v : Verdict) → JudgesIn (shape_of t) K t.n v → Judges t v
judges_table t w K l g (outside k) j = absurd j
judges_table t w K l g (knotted u) j = (w, j)
judges_table t w K l g flat j = (w, j.0, j.1)
judges_table t w K l g wide j = absurd j
judges_table t w K l g (found a) j = let x = answers_same (shape_of t) K (ranges_of t) l g t.n a j.1 in (w, j.0, x, never_wide_at t w a x)

pub lap_outside : (t : Table) (f k : ℕ) (r : Lap) → FirstBad t k × (f ≡ 3) → r ≡ refused_lap f k → LapOf t r
lap_outside t f k r b e = record { verdict = outside k; judged = b.0; result = e ∙ ap (λ x. refused_lap x k) b.1 }

pub lap_table : (t : Table) → Within t → (s g o l h : List ℕ) (b : Bool) → Laid t t.m s g o l h b → (r : Lap) → LapIn (shape s g o t.m) (ranges_in l h) t.n r → LapOf t r
lap_table t w s g o l h b c r x =
    record {
      verdict = x.verdict;
      judged = judges_table t w (ranges_in l h) (laid_least t s g o l h b c) (laid_greatest t s g o l h b c) x.verdict
          (subst (λ (S : Shape). JudgesIn S (ranges_in l h) t.n x.verdict) (laid_shape t s g o l h b c) x.judged);
      result = x.result;
    }

-- ------------------------------------------------------------------------------------------------------------------------------------- padding

-- a list of 256 places that is 0 past the first n
pub padded_zeros : (n : ℕ) (x : List ℕ) → n ≤ 256 → length x ≡ 256 → ((v : ℕ) → n ≤ v → get_or x v 0 ≡ 0) → padded (take n x) ≡ x
padded_zeros n x few size rest = let k : length (take n x) ≡ n = simp length-take (omega arith) in rw k (zeros n (256 - n) x (omega arith) rest)
  where
    only : (j : ℕ) (x : List ℕ) → length x ≡ j → ((v : ℕ) → get_or x v 0 ≡ 0) → replicate j 0 ≡ x
    only zero [] e z = refl
    only zero (y ∷ x) e z = absurd (omega arith)
    only (suc j) [] e z = absurd (omega arith)
    only (suc j) (y ∷ x) e z = let a = z 0 in let t = only j x (omega arith) (λ v. z (suc v)) in cc (a, t)

    zeros : (n j : ℕ) (x : List ℕ) → length x ≡ n + j → ((v : ℕ) → n ≤ v → get_or x v 0 ≡ 0) → take n x ++ replicate j 0 ≡ x
    zeros zero j x e z = only j x (omega arith) (λ v. z v (omega arith))
    zeros (suc n) j [] e z = absurd (omega arith)
    zeros (suc n) j (y ∷ x) e z = ap (λ l. y ∷ l) (zeros n j x (omega arith) (λ v l. z (suc v) (omega arith)))

-- an end from the code's parts
pub end_made : (p q len : ℕ) (rules all : List ℕ) → len ≤ 256 → length rules ≡ 256 → all ≡ take len rules ++ replicate (256 - len) 0
    → ◌≡◌ {A = End} (record { p = p; q = q; len = len; rules = all }) (end_of p q (take len rules))
end_made p q len rules all b e h = let k : length (take len rules) ≡ len = simp length-take (omega arith) in rw (k, h)

-- and the whole answer
pub lap_made : (n p q l : ℕ) (ls : List ℕ) (P Q h : ℕ) (hs x : List ℕ) (e : Bool) (low high : End) → low ≡ end_of p q (take l ls) → high ≡ end_of P Q (take h hs)
    → n ≤ 256 → length x ≡ 256 → ((v : ℕ) → n ≤ v → get_or x v 0 ≡ 0)
    → ◌≡◌ {A = Lap} (record { refusal = 0; place = 0; exact = e; low = low; high = high; schedule = x }) (answered_lap (answer_of n p q l ls P Q h hs x e))
lap_made n p q l ls P Q h hs x e low high a b few size rest = rw (a, b, padded_zeros n x few size rest)
