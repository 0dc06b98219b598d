-- Written-out lists of rules, and how what is said of them is proved: rule by rule.
--
--   Rule, rule              == a rule as the paper writes it, source>target/offset/delay
--   shape_of rs, ranges_of rs == the shape and the ranges of a list of rules, an unknown delay being at most 1,000,000
--   Lap, Right           == a lap worked by hand, and what it claims
--   kept, times             a finite check for schedules and for times
--   ring-loops, ..          the loops of the shapes in the table
use Rattle.std.specs.Prelude.{◌≡◌, refl, ◌⊎◌, List, [], ◌∷◌, ℕ, zero, suc, ◌+◌, ◌*◌, ◌≤◌, ◌<◌, length, get_or, replicate}
use Rattle.std.proofs.Common.{sym, ap, inl, inr, ⊎_elim, arith}
use Rattle.std.proofs.Math.Logic.{by_cases}
use Rattle.std.proofs.Math.Decide.{ℕ_discrete}
use Rattle.model.specs.Shape.{Shape}
use Rattle.model.specs.Loop.{NoLoop, Live}
use Rattle.model.specs.Ratio.{Lowest}
use Rattle.model.specs.Filling.{Delay, unknown, Ranges, ranges}
use Rattle.model.specs.Schedule.{Keeps}
use Rattle.model.specs.Knot.{Knot}
use Rattle.model.specs.Times.{Acts, asked, IsTime, AreTimes, Timed}
use Rattle.model.specs.Answer.{Answer, Answers}

pub record Rule : Type 0 where
  pub source : ℕ
  pub target : ℕ
  pub offset : ℕ
  pub delay : Delay

abbrev pub rule : ℕ → ℕ → ℕ → Delay → Rule
rule s t e d = record { source = s; target = t; offset = e; delay = d }

abbrev none : Rule
none = rule 0 0 0 unknown

abbrev pub shape_of : List Rule → Shape
shape_of rs = record { rules = length rs; source = λ r. (get_or rs r none).source; target = λ r. (get_or rs r none).target; offset = λ r. (get_or rs r none).offset }

abbrev pub ranges_of : List Rule → Ranges
ranges_of rs = ranges 1000000 (λ r. (get_or rs r none).delay)

-- what the paper says of a list: the whole answer, or the refusal 5 at a place, or the refusal 6
pub data Says : Type 0 where
  answered : Answer → Says
  knotted : ℕ → Says
  flat : Says

-- a lap; its times are those of the first `occurrences`, row by row
pub record Lap : Type 0 where
  pub n : ℕ
  pub rules : List Rule
  pub says : Says
  pub occurrences : ℕ
  pub times : List ℕ

abbrev pub Holds : Shape → Ranges → ℕ → Says → Type 0
Holds S K n (answered a) = Answers S K n a
Holds S K n (knotted u) = Knot S u
Holds S K n flat = Live S × NoLoop S

-- the times are what a buffer of their length, all zeros before, then holds
abbrev pub Right : Lap → Type 0
Right l =
    Holds (shape_of l.rules) (ranges_of l.rules) l.n l.says
    × Timed (shape_of l.rules) (ranges_of l.rules).least l.occurrences l.n (replicate (length l.times) 0) l.times

-- a fact of each of the first m numbers, written out
abbrev Each : (ℕ → Type 0) → ℕ → Type 0
Each A zero = Unit {0}
Each A (suc m) = A m × Each A m

each : (A : ℕ → Type 0) (m : ℕ) → Each A m → (r : ℕ) → r < m → A r
each A zero k r l = absurd (omega arith)
each A (suc m) k r l = by_cases (ℕ_discrete r m) (λ e. rw e k.0) (λ d. each A m k.1 r (omega arith))

abbrev pub KeepsEach : Shape → (ℕ → ℕ) → ℕ → ℕ → List ℕ → Type 0
KeepsEach S D P Q X = Each (λ r. get_or X (S.source r) 0 + Q * D r ≤ get_or X (S.target r) 0 + P * S.offset r) S.rules

pub kept : (S : Shape) (D : ℕ → ℕ) (P Q : ℕ) (X : List ℕ) → KeepsEach S D P Q X → Keeps S D P Q X
kept S D P Q X k r b = each _ S.rules k r b

-- what rule r asks of occurrence i of v is met
abbrev Met : Shape → (ℕ → ℕ) → (ℕ → ℕ → ℕ) → ℕ → ℕ → ℕ → Type 0
Met S D T i v r = Acts S i v r → asked S D T i r ≤ T i v

abbrev pub TimeEach : Shape → (ℕ → ℕ) → (ℕ → ℕ → ℕ) → ℕ → ℕ → Type 0
TimeEach S D T i v = Each (Met S D T i v) S.rules × ((T i v ≡ 0) ⊎ ((r : ℕ) × Acts S i v r × (T i v ≡ asked S D T i r)))

pub time : (S : Shape) (D : ℕ → ℕ) (T : ℕ → ℕ → ℕ) (i v : ℕ) → TimeEach S D T i v → IsTime S D T i v
time S D T i v t =
    record {
      late_enough = λ r a. each (Met S D T i v) S.rules t.0 r a.is_rule a;
      no_later = ⊎_elim inl (λ c. inr (record { rule = c.0; acts = c.1; exact = c.2 })) t.1;
    }

abbrev pub RowEach : Shape → (ℕ → ℕ) → (ℕ → ℕ → ℕ) → ℕ → ℕ → Type 0
RowEach S D T n i = Each (IsTime S D T i) n

pub rows : (S : Shape) (D : ℕ → ℕ) (T : ℕ → ℕ → ℕ) (N n : ℕ) → Each (RowEach S D T n) N → AreTimes S D N n T
rows S D T N n k i v a b = each (IsTime S D T i) n (each (RowEach S D T n) N k i a) v b

-- the times that a row-by-row list says
pub timed : (S : Shape) (D : ℕ → ℕ) (N n : ℕ) (ts : List ℕ) → length ts ≡ N * n → Each (RowEach S D (λ i v. get_or ts (i * n + v) 0) n) N → Timed S D N n (replicate (length ts) 0) ts
timed S D N n ts e k =
    record {
      T = λ i v. get_or ts (i * n + v) 0;
      times = rows S D (λ i v. get_or ts (i * n + v) 0) N n k;
      size = sym (size ts);
      rows = λ i v a b. refl;
      rest = λ k l. past ts k (omega (arith, e));
    }
  where
    size : (xs : List ℕ) → length {A = ℕ} (replicate (length xs) 0) ≡ length xs
    size [] = refl
    size (x ∷ xs) = ap suc (size xs)

    past : (xs : List ℕ) (k : ℕ) → length xs ≤ k → get_or xs k 0 ≡ get_or {A = ℕ} (replicate (length xs) 0) k 0
    past [] k l = refl
    past (x ∷ xs) zero l = absurd (omega arith)
    past (x ∷ xs) (suc k) l = past xs k (omega arith)

-- no times
pub untimed : (S : Shape) (D : ℕ → ℕ) (n : ℕ) → Timed S D 0 n [] []
untimed S D n = timed S D 0 n [] (omega arith) tt

-- a ratio over 1 is in lowest terms, and so is 7/2
one_divides : (k d : ℕ) → 1 ≡ k * d → d ≡ 1
one_divides zero d e = absurd (omega arith)
one_divides (suc k) zero e = absurd (omega arith)
one_divides (suc k) (suc zero) e = refl
one_divides (suc k) (suc (suc d)) e = absurd (omega arith)

pub lowest_one : (P : ℕ) → Lowest P 1
lowest_one P d x (k, e) = one_divides k d e

pub lowest_7_2 : Lowest 7 2
lowest_7_2 zero (a, x) (b, y) = absurd (omega arith)
lowest_7_2 (suc zero) x y = refl
lowest_7_2 (suc (suc zero)) (a, x) (b, y) = absurd (omega arith)
lowest_7_2 (suc (suc (suc d))) (a, x) (b, y) = absurd (low b y)
  where
    low : (b : ℕ) → 2 ≡ b * suc (suc (suc d)) → ⊥
    low zero e = omega arith
    low (suc b) e = omega arith
