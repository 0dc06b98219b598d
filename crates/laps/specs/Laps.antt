-- The laps worked by hand, P1 to P9: what the paper says of them is what the definitions say.
-- Each says everything: both ends in lowest terms, exact or not, both loops, the schedule, the times, or the refusal with its place.
use Rattle.std.specs.Prelude.{◌≡◌, refl, ◌⊎◌, List, [], ◌∷◌, ℕ, zero, suc, ◌+◌, ◌*◌, ◌≤◌, ◌<◌, length, get_or}
use Rattle.std.proofs.Common.{sym, ap, ◌∙◌, inl, inr, ⊎_elim, arith}
use mathlib.Core.Bool.{true, false}
use Rattle.model.specs.Shape.{Shape}
use Rattle.model.specs.Sums.{offsets}
use Rattle.model.specs.Loop.{Loop, NoLoop}
use Rattle.model.specs.Ratio.{Lowest}
use Rattle.model.specs.Period.{Attains, Period}
use Rattle.model.specs.Filling.{Delay, unknown, known}
use Rattle.model.specs.Schedule.{Schedule, LeastSchedule}
use Rattle.model.specs.Reported.{NotAfter, Reported}
use Rattle.model.specs.Times.{IsTime}
use Rattle.model.specs.Ends.{Exact}
use Rattle.model.specs.Answer.{Answers}
use Rattle.theory.specs.Filling.{ranges_proper}
use Rattle.theory.specs.Period.{certified}
use Rattle.theory.specs.Ends.{period_steady, range_is}
use Rattle.laps.specs.Lists.{Rule, rule, shape_of, ranges_of, Says, answered, knotted, flat, Lap, Right, KeepsEach, kept, TimeEach, time, timed, untimed, lowest_one, lowest_7_2}

-- ------------------------------------------------------------------------------------------------------------------------------------ the laps

abbrev P1 : List Rule
P1 = rule 0 1 0 (known 3) ∷ rule 1 0 1 (known 4) ∷ []

abbrev P2 : List Rule
P2 = rule 0 1 0 (known 3) ∷ rule 1 0 2 (known 4) ∷ []

abbrev P3 : List Rule
P3 = rule 0 1 0 (known 3) ∷ rule 1 0 1 unknown ∷ []

abbrev P4 : List Rule
P4 = rule 0 1 0 (known 0) ∷ rule 1 0 2 unknown ∷ rule 0 0 1 (known 1000000) ∷ []

abbrev P5 : List Rule
P5 = rule 0 0 1 unknown ∷ []

abbrev P6 : List Rule
P6 = rule 0 0 1 (known 0) ∷ []

abbrev P7 : List Rule
P7 = rule 0 0 0 (known 0) ∷ []

abbrev P8 : List Rule
P8 = rule 0 1 1 (known 5) ∷ []

abbrev exactly : ℕ → ℕ → List ℕ → List ℕ → Says
exactly P Q loop X = answered (record { ends = record { low_p = P; low_q = Q; high_p = P; high_q = Q; exact = true }; low_loop = loop; high_loop = loop; schedule = X })

abbrev from_to : ℕ → ℕ → ℕ → ℕ → List ℕ → List ℕ → Says
from_to p q P Q loop X = answered (record { ends = record { low_p = p; low_q = q; high_p = P; high_q = Q; exact = false }; low_loop = loop; high_loop = loop; schedule = X })

abbrev pub lap_1 : Lap
lap_1 = record { n = 2; rules = P1; says = exactly 7 1 (0 ∷ 1 ∷ []) (0 ∷ 3 ∷ []); occurrences = 3; times = 0 ∷ 3 ∷ 7 ∷ 10 ∷ 14 ∷ 17 ∷ [] }

abbrev pub lap_2 : Lap
lap_2 = record { n = 2; rules = P2; says = exactly 7 2 (0 ∷ 1 ∷ []) (0 ∷ 6 ∷ []); occurrences = 0; times = [] }

abbrev pub lap_3 : Lap
lap_3 = record { n = 2; rules = P3; says = from_to 3 1 1000003 1 (0 ∷ 1 ∷ []) (0 ∷ 3 ∷ []); occurrences = 0; times = [] }

abbrev pub lap_4 : Lap
lap_4 = record { n = 2; rules = P4; says = exactly 1000000 1 (2 ∷ []) (0 ∷ 0 ∷ []); occurrences = 0; times = [] }

abbrev pub lap_5 : Lap
lap_5 = record { n = 1; rules = P5; says = from_to 0 1 1000000 1 (0 ∷ []) (0 ∷ []); occurrences = 0; times = [] }

abbrev pub lap_6 : Lap
lap_6 = record { n = 1; rules = P6; says = exactly 0 1 (0 ∷ []) (0 ∷ []); occurrences = 0; times = [] }

abbrev pub lap_7 : Lap
lap_7 = record { n = 1; rules = P7; says = knotted 0; occurrences = 0; times = [] }

abbrev pub lap_8 : Lap
lap_8 = record { n = 2; rules = P8; says = flat; occurrences = 2; times = 0 ∷ 0 ∷ 0 ∷ 5 ∷ [] }

abbrev pub lap_9 : Lap
lap_9 = record { n = 1; rules = []; says = flat; occurrences = 0; times = [] }

-- ------------------------------------------------------------------------------------------------------------------------------- their loops

-- two rules that go round: from 0, or from 1
module _ (S : Shape) (two : S.rules ≡ 2) (s0 : S.source 0 ≡ 0) (t0 : S.target 0 ≡ 1) (s1 : S.source 1 ≡ 1) (t1 : S.target 1 ≡ 0) where
  ring_loop : (rs : List ℕ) → Loop S 0 rs → rs ≡ 0 ∷ 1 ∷ []
  ring_loop [] l = absurd (omega (arith, l.some_rule))
  ring_loop (zero ∷ []) l = absurd (omega (arith, l.closed.2))
  ring_loop (zero ∷ (zero ∷ rs)) l = absurd (omega (arith, l.closed.2.1))
  ring_loop (zero ∷ (suc zero ∷ [])) l = refl
  ring_loop (zero ∷ (suc zero ∷ (q ∷ rs))) l = absurd (l.simple.0.1.0 (l.closed.2.2.1 ∙ t1 ∙ sym s0))
  ring_loop (zero ∷ (suc (suc r) ∷ rs)) l = absurd (omega (arith, l.closed.2.0))
  ring_loop (suc zero ∷ rs) l = absurd (omega (arith, l.closed.1))
  ring_loop (suc (suc r) ∷ rs) l = absurd (omega (arith, l.closed.0))

-- one rule from 0 to 0
module _ (S : Shape) (one : S.rules ≡ 1) where
  self_loop : (rs : List ℕ) → Loop S 0 rs → rs ≡ 0 ∷ []
  self_loop [] l = absurd (omega (arith, l.some_rule))
  self_loop (zero ∷ []) l = refl
  self_loop (zero ∷ (zero ∷ rs)) l = absurd (l.simple.0.0 refl)
  self_loop (zero ∷ (suc r ∷ rs)) l = absurd (omega (arith, l.closed.2.0))
  self_loop (suc r ∷ rs) l = absurd (omega (arith, l.closed.0))

-- a loop through transition 0 that is the only one there is the reported one
only_reported : (S : Shape) (D : ℕ → ℕ) (P Q : ℕ) (rs : List ℕ) → Loop S 0 rs → Attains S D P Q rs → ((qs : List ℕ) → Loop S 0 qs → qs ≡ rs) → Reported S D P Q 0 rs
only_reported S D P Q rs l a only =
    record {
      is_loop = l;
      attains = a;
      lowest = λ w qs k t. omega arith;
      fewest = λ qs k t. omega (arith, ap length (only qs k));
      first = λ qs k t e. rw (only qs k) (itself rs);
    }
  where
    itself : (rs : List ℕ) → NotAfter rs rs
    itself [] = tt
    itself (r ∷ rs) = inr (refl, itself rs)

-- ------------------------------------------------------------------------------------------------------------------------------- their answers

-- an answer from its parts: a period at each extreme, the loop, and the schedule
module _ (rs : List Rule) (n : ℕ) where
  answers : (p q P Q : ℕ) (loop X : List ℕ) (e : mathlib.Core.Bool.Bool) → let S = shape_of rs in let K = ranges_of rs in
      Period S K.least p q → Lowest p q → Period S K.greatest P Q → Lowest P Q
      → Exact p q P Q e
      → Reported S K.least p q 0 loop → Reported S K.greatest P Q 0 loop → LeastSchedule S K.greatest n P Q X
      → Answers S K n (record { ends = record { low_p = p; low_q = q; high_p = P; high_q = Q; exact = e }; low_loop = loop; high_loop = loop; schedule = X })
  answers p q P Q loop X e lp ll hp hl m lr hr ls =
      let proper = ranges_proper (shape_of rs) 1000000 (λ r. (get_or rs r (rule 0 0 0 unknown)).delay) in
      record {
        ends = range_is (shape_of rs) (ranges_of rs) (Period (shape_of rs)) (period_steady (shape_of rs)) proper p q P Q e lp ll hp hl m;
        low_at = 0;
        low_loop = lr;
        high_at = 0;
        high_loop = hr;
        schedule = ls;
      }

-- a period by a schedule and a loop, written out
period_by : (rs : List Rule) (D : ℕ → ℕ) (P Q : ℕ) (X loop : List ℕ)
    → KeepsEach (shape_of rs) D P Q X × (0 < Q) × Loop (shape_of rs) 0 loop × (0 < offsets (shape_of rs) loop) × Attains (shape_of rs) D P Q loop → Period (shape_of rs) D P Q
period_by rs D P Q X loop h = certified (shape_of rs) D P Q X (kept (shape_of rs) D P Q X h.0) 0 loop h.1 h.2 h.3 h.4

-- two rules that go round, the first of offset 0: the schedule is 0 and Q times the first delay
module _ (e : ℕ) (d : ℕ) (k : Delay) where
  abbrev Ring : List Rule
  Ring = rule 0 1 0 (known d) ∷ rule 1 0 e k ∷ []

  ring : (D : ℕ → ℕ) (P Q : ℕ) → Loop (shape_of Ring) 0 (0 ∷ 1 ∷ []) → Attains (shape_of Ring) D P Q (0 ∷ 1 ∷ []) → Reported (shape_of Ring) D P Q 0 (0 ∷ 1 ∷ [])
  ring D P Q l a = only_reported (shape_of Ring) D P Q (0 ∷ 1 ∷ []) l a (ring_loop (shape_of Ring) refl refl refl refl refl)

  ring_schedule : (D : ℕ → ℕ) (P Q : ℕ) → D 0 ≡ d → KeepsEach (shape_of Ring) D P Q (0 ∷ Q * d ∷ []) → LeastSchedule (shape_of Ring) D 2 P Q (0 ∷ Q * d ∷ [])
  ring_schedule D P Q known_d keeps = record { is_schedule = record { size = refl; keeps = kept (shape_of Ring) D P Q (0 ∷ Q * d ∷ []) keeps }; least = least }
    where
      least : (Y : List ℕ) → Schedule (shape_of Ring) D 2 P Q Y → (v : ℕ) → v < 2 → get_or (0 ∷ Q * d ∷ []) v 0 ≤ get_or Y v 0
      least Y y zero b = omega arith
      least Y y (suc zero) b = omega (arith, y.keeps 0 (omega arith), ap (λ x. Q * x) known_d)
      least Y y (suc (suc v)) b = absurd (omega arith)

-- a schedule of one transition, and one of two, that is nothing but zeros
zero_schedule : (S : Shape) (D : ℕ → ℕ) (P Q : ℕ) → KeepsEach S D P Q (0 ∷ []) → LeastSchedule S D 1 P Q (0 ∷ [])
zero_schedule S D P Q k = record { is_schedule = record { size = refl; keeps = kept S D P Q (0 ∷ []) k }; least = λ Y y v b. rw (none v b) (omega arith) }
  where
    none : (v : ℕ) → v < 1 → get_or {A = ℕ} (0 ∷ []) v 0 ≡ 0
    none zero b = refl
    none (suc v) b = absurd (omega arith)

zeros_schedule : (S : Shape) (D : ℕ → ℕ) (P Q : ℕ) → KeepsEach S D P Q (0 ∷ 0 ∷ []) → LeastSchedule S D 2 P Q (0 ∷ 0 ∷ [])
zeros_schedule S D P Q k = record { is_schedule = record { size = refl; keeps = kept S D P Q (0 ∷ 0 ∷ []) k }; least = λ Y y v b. rw (none v b) (omega arith) }
  where
    none : (v : ℕ) → v < 2 → get_or {A = ℕ} (0 ∷ 0 ∷ []) v 0 ≡ 0
    none zero b = refl
    none (suc zero) b = refl
    none (suc (suc v)) b = absurd (omega arith)

-- ------------------------------------------------------------------------------------------------------------------------------- line by line

abbrev T1 : ℕ → ℕ → ℕ
T1 i v = get_or (0 ∷ 3 ∷ 7 ∷ 10 ∷ 14 ∷ 17 ∷ []) (i * 2 + v) 0

-- occurrence i of v, with rule 1, rule 0, and what makes the time
at_1 : (i v : ℕ) → TimeEach (shape_of P1) (ranges_of P1).least T1 i v → IsTime (shape_of P1) (ranges_of P1).least T1 i v
at_1 = time (shape_of P1) (ranges_of P1).least T1

pub line_1 : Right lap_1
line_1 = (
  answers P1 2 7 1 7 1 (0 ∷ 1 ∷ []) (0 ∷ 3 ∷ []) true
      (period_by P1 (ranges_of P1).least 7 1 (0 ∷ 3 ∷ []) (0 ∷ 1 ∷ []) (omega arith)) (lowest_one 7)
      (period_by P1 (ranges_of P1).greatest 7 1 (0 ∷ 3 ∷ []) (0 ∷ 1 ∷ []) (omega arith)) (lowest_one 7) (inl (refl, refl, refl))
      (ring 1 3 (known 4) (ranges_of P1).least 7 1 (omega arith) (omega arith)) (ring 1 3 (known 4) (ranges_of P1).greatest 7 1 (omega arith) (omega arith))
      (ring_schedule 1 3 (known 4) (ranges_of P1).greatest 7 1 refl (omega arith)),
  timed (shape_of P1) (ranges_of P1).least 3 2 (0 ∷ 3 ∷ 7 ∷ 10 ∷ 14 ∷ 17 ∷ []) refl (
    (
      at_1 2 1 ((λ a. omega arith, (λ a. omega arith, tt)), inr (0, omega arith, refl)),
      (at_1 2 0 ((λ a. omega arith, (λ a. omega arith, tt)), inr (1, omega arith, refl)), tt),
    ),
    (
      (
        at_1 1 1 ((λ a. omega arith, (λ a. omega arith, tt)), inr (0, omega arith, refl)),
        (at_1 1 0 ((λ a. omega arith, (λ a. omega arith, tt)), inr (1, omega arith, refl)), tt),
      ),
      (
        (
          at_1 0 1 ((λ a. omega arith, (λ a. omega arith, tt)), inr (0, omega arith, refl)),
          (at_1 0 0 ((λ a. omega arith, (λ a. omega arith, tt)), inl refl), tt),
        ),
        tt,
      ),
    ),
  ),
)

pub line_2 : Right lap_2
line_2 = (
  answers P2 2 7 2 7 2 (0 ∷ 1 ∷ []) (0 ∷ 6 ∷ []) true
      (period_by P2 (ranges_of P2).least 7 2 (0 ∷ 6 ∷ []) (0 ∷ 1 ∷ []) (omega arith)) lowest_7_2
      (period_by P2 (ranges_of P2).greatest 7 2 (0 ∷ 6 ∷ []) (0 ∷ 1 ∷ []) (omega arith)) lowest_7_2 (inl (refl, refl, refl))
      (ring 2 3 (known 4) (ranges_of P2).least 7 2 (omega arith) (omega arith)) (ring 2 3 (known 4) (ranges_of P2).greatest 7 2 (omega arith) (omega arith))
      (ring_schedule 2 3 (known 4) (ranges_of P2).greatest 7 2 refl (omega arith)),
  untimed (shape_of P2) (ranges_of P2).least 2,
)

pub line_3 : Right lap_3
line_3 = (
  answers P3 2 3 1 1000003 1 (0 ∷ 1 ∷ []) (0 ∷ 3 ∷ []) false
      (period_by P3 (ranges_of P3).least 3 1 (0 ∷ 3 ∷ []) (0 ∷ 1 ∷ []) (omega arith)) (lowest_one 3)
      (period_by P3 (ranges_of P3).greatest 1000003 1 (0 ∷ 3 ∷ []) (0 ∷ 1 ∷ []) (omega arith)) (lowest_one 1000003) (inr (λ e. omega (arith, e.0), refl))
      (ring 1 3 unknown (ranges_of P3).least 3 1 (omega arith) (omega arith)) (ring 1 3 unknown (ranges_of P3).greatest 1000003 1 (omega arith) (omega arith))
      (ring_schedule 1 3 unknown (ranges_of P3).greatest 1000003 1 refl (omega arith)),
  untimed (shape_of P3) (ranges_of P3).least 2,
)

-- P4's loops from 0: the two rules that go round, and rule 2, which is the shorter
p4_loops : (qs : List ℕ) → Loop (shape_of P4) 0 qs → (qs ≡ 2 ∷ []) ⊎ (qs ≡ 0 ∷ 1 ∷ [])
p4_loops [] l = absurd (omega (arith, l.some_rule))
p4_loops (zero ∷ []) l = absurd (omega (arith, l.closed.2))
p4_loops (zero ∷ (zero ∷ rs)) l = absurd (omega (arith, l.closed.2.1))
p4_loops (zero ∷ (suc zero ∷ [])) l = inr refl
p4_loops (zero ∷ (suc zero ∷ (q ∷ rs))) l = absurd (l.simple.0.1.0 l.closed.2.2.1)
p4_loops (zero ∷ (suc (suc zero) ∷ rs)) l = absurd (omega (arith, l.closed.2.1))
p4_loops (zero ∷ (suc (suc (suc r)) ∷ rs)) l = absurd (omega (arith, l.closed.2.0))
p4_loops (suc zero ∷ rs) l = absurd (omega (arith, l.closed.1))
p4_loops (suc (suc zero) ∷ []) l = inl refl
p4_loops (suc (suc zero) ∷ (q ∷ rs)) l = absurd (l.simple.0.0 l.closed.2.1)
p4_loops (suc (suc (suc r)) ∷ rs) l = absurd (omega (arith, l.closed.0))

p4_reported : (D : ℕ → ℕ) → D 2 ≡ 1000000 → Reported (shape_of P4) D 1000000 1 0 (2 ∷ [])
p4_reported D d =
    record {
      is_loop = omega arith;
      attains = omega (arith, d);
      lowest = λ w qs k t. omega arith;
      fewest = λ qs k t. omega (arith, k.some_rule);
      first = λ qs k t e. ⊎_elim (λ same. rw same (inr (refl, tt))) (λ other. absurd (omega (arith, ap length other))) (p4_loops qs k);
    }

pub line_4 : Right lap_4
line_4 = (
  answers P4 2 1000000 1 1000000 1 (2 ∷ []) (0 ∷ 0 ∷ []) true
      (period_by P4 (ranges_of P4).least 1000000 1 (0 ∷ 0 ∷ []) (2 ∷ []) (omega arith)) (lowest_one 1000000)
      (period_by P4 (ranges_of P4).greatest 1000000 1 (0 ∷ 0 ∷ []) (2 ∷ []) (omega arith)) (lowest_one 1000000) (inl (refl, refl, refl))
      (p4_reported (ranges_of P4).least refl) (p4_reported (ranges_of P4).greatest refl) (zeros_schedule (shape_of P4) (ranges_of P4).greatest 1000000 1 (omega arith)),
  untimed (shape_of P4) (ranges_of P4).least 2,
)

-- one rule from 0 to 0 of offset 1: its delay is the period
module _ (k : Delay) where
  abbrev Self : List Rule
  Self = rule 0 0 1 k ∷ []

  self_reported : (D : ℕ → ℕ) (P : ℕ) → D 0 ≡ P → Reported (shape_of Self) D P 1 0 (0 ∷ [])
  self_reported D P d = only_reported (shape_of Self) D P 1 (0 ∷ []) (omega arith) (omega (arith, d)) (self_loop (shape_of Self) refl)

  self_period : (D : ℕ → ℕ) (P : ℕ) → D 0 ≡ P → Period (shape_of Self) D P 1
  self_period D P d = period_by Self D P 1 (0 ∷ []) (0 ∷ []) (omega (arith, d))

pub line_5 : Right lap_5
line_5 = (
  answers P5 1 0 1 1000000 1 (0 ∷ []) (0 ∷ []) false (self_period unknown (ranges_of P5).least 0 refl) (lowest_one 0) (self_period unknown (ranges_of P5).greatest 1000000 refl) (lowest_one 1000000)
      (inr (λ e. omega (arith, e.0), refl)) (self_reported unknown (ranges_of P5).least 0 refl) (self_reported unknown (ranges_of P5).greatest 1000000 refl)
      (zero_schedule (shape_of P5) (ranges_of P5).greatest 1000000 1 (omega arith)),
  untimed (shape_of P5) (ranges_of P5).least 1,
)

pub line_6 : Right lap_6
line_6 = (
  answers P6 1 0 1 0 1 (0 ∷ []) (0 ∷ []) true (self_period (known 0) (ranges_of P6).least 0 refl) (lowest_one 0) (self_period (known 0) (ranges_of P6).greatest 0 refl) (lowest_one 0)
      (inl (refl, refl, refl)) (self_reported (known 0) (ranges_of P6).least 0 refl) (self_reported (known 0) (ranges_of P6).greatest 0 refl)
      (zero_schedule (shape_of P6) (ranges_of P6).greatest 0 1 (omega arith)),
  untimed (shape_of P6) (ranges_of P6).least 1,
)

pub line_7 : Right lap_7
line_7 = (record { loop = 0 ∷ []; is_loop = omega arith; no_turn = refl; lowest = λ w qs l e. omega arith }, untimed (shape_of P7) (ranges_of P7).least 1)

-- P8's rule leads to 1, from where no rule goes on
p8_none : NoLoop (shape_of P8)
p8_none u [] l = absurd (omega (arith, l.some_rule))
p8_none u (zero ∷ []) l = absurd (omega (arith, l.closed.1, l.closed.2))
p8_none u (zero ∷ (zero ∷ rs)) l = absurd (omega (arith, l.closed.2.1))
p8_none u (zero ∷ (suc r ∷ rs)) l = absurd (omega (arith, l.closed.2.0))
p8_none u (suc r ∷ rs) l = absurd (omega (arith, l.closed.0))

abbrev T8 : ℕ → ℕ → ℕ
T8 i v = get_or (0 ∷ 0 ∷ 0 ∷ 5 ∷ []) (i * 2 + v) 0

at_8 : (i v : ℕ) → TimeEach (shape_of P8) (ranges_of P8).least T8 i v → IsTime (shape_of P8) (ranges_of P8).least T8 i v
at_8 = time (shape_of P8) (ranges_of P8).least T8

pub line_8 : Right lap_8
line_8 = (
  (λ u rs l. absurd (p8_none u rs l), p8_none),
  timed (shape_of P8) (ranges_of P8).least 2 2 (0 ∷ 0 ∷ 0 ∷ 5 ∷ []) refl (
    (at_8 1 1 ((λ a. omega arith, tt), inr (0, omega arith, refl)), (at_8 1 0 ((λ a. omega arith, tt), inl refl), tt)),
    ((at_8 0 1 ((λ a. omega arith, tt), inl refl), (at_8 0 0 ((λ a. omega arith, tt), inl refl), tt)), tt),
  ),
)

p9_none : NoLoop (shape_of [])
p9_none u [] l = absurd (omega (arith, l.some_rule))
p9_none u (r ∷ rs) l = absurd (omega (arith, l.closed.0))

pub line_9 : Right lap_9
line_9 = ((λ u rs l. absurd (p9_none u rs l), p9_none), untimed (shape_of []) (ranges_of []).least 1)
