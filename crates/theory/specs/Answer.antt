-- The whole answer: there is one where every loop turns and there is a loop, and only one.
--
--   answer_unique, answer_exists
use Rattle.std.specs.Prelude.{◌≡◌, List, ℕ, ◌≤◌, ◌<◌}
use Rattle.std.proofs.Common.{arith}
use Rattle.model.specs.Shape.{Shape, Fits}
use Rattle.model.specs.Loop.{SomeLoop, Live}
use Rattle.model.specs.Period.{Period}
use Rattle.model.specs.Filling.{Ranges}
use Rattle.model.specs.Ends.{Range}
use Rattle.model.specs.Reported.{Reported}
use Rattle.model.specs.Schedule.{LeastSchedule}
use Rattle.model.specs.Answer.{Answer, Answers}
use Rattle.theory.specs.Relax.{values}
use Rattle.theory.specs.Schedule.{least_unique}
use Rattle.theory.specs.Period.{period_exists, period_schedule}
use Rattle.theory.specs.Reported.{reported_unique, reported_exists}
use Rattle.theory.specs.Filling.{Proper}
use Rattle.theory.specs.Ends.{period_steady, range_unique, range_is, exact_exists}

same : {e e' : Range} {l h x l' h' x' : List ℕ} → e ≡ e' → l ≡ l' → h ≡ h' → x ≡ x'
    → ◌≡◌ {A = Answer} (record { ends = e; low_loop = l; high_loop = h; schedule = x }) (record { ends = e'; low_loop = l'; high_loop = h'; schedule = x' })
same q1 q2 q3 q4 = cc

module _ (S : Shape) (K : Ranges) (n : ℕ) where
  -- ONLY ONE: each part is
  pub answer_unique : (a b : Answer) → Answers S K n a → Answers S K n b → a ≡ b
  answer_unique a b x y =
      let e = range_unique S K (Period S) (period_steady S) a.ends b.ends x.ends y.ends in
      let lr : Reported S K.least a.ends.low_p a.ends.low_q y.low_at b.low_loop = rw e y.low_loop in
      let hr : Reported S K.greatest a.ends.high_p a.ends.high_q y.high_at b.high_loop = rw e y.high_loop in
      let hs : LeastSchedule S K.greatest n a.ends.high_p a.ends.high_q b.schedule = rw e y.schedule in
      same e
      (reported_unique S _ _ _ _ _ _ _ x.low_loop lr).1
      (reported_unique S _ _ _ _ _ _ _ x.high_loop hr).1
      (least_unique S _ n _ _ _ _ x.schedule hs)

  -- THERE IS ONE
  pub answer_exists : Proper S K → Fits S n → (E M : ℕ) → ((r : ℕ) → r < S.rules → S.offset r ≤ E) → ((r : ℕ) → r < S.rules → K.greatest r ≤ M) → Live S → SomeLoop S
      → (a : Answer) × Answers S K n a
  answer_exists proper fits E M off most live some =
      let (p, q, lp, ll) = period_exists S n fits E M off K.least (λ r b. omega (arith, proper r b, most r b)) live some in
      let (P, Q, hp, hl) = period_exists S n fits E M off K.greatest most live some in
      let ls = period_schedule S K.least p q lp n fits in
      let hs = period_schedule S K.greatest P Q hp n fits in
      let (u, rs, ru) = reported_exists S K.least p q (values S K.least p q n n) ls.is_schedule.keeps n fits lp in
      let (w, qs, rq) = reported_exists S K.greatest P Q (values S K.greatest P Q n n) hs.is_schedule.keeps n fits hp in
      let (e, m) = exact_exists p q P Q in (
        record { ends = record { low_p = p; low_q = q; high_p = P; high_q = Q; exact = e }; low_loop = rs; high_loop = qs; schedule = values S K.greatest P Q n n },
        record {
          ends = range_is S K (Period S) (period_steady S) proper p q P Q e lp ll hp hl m;
          low_at = u;
          low_loop = ru;
          high_at = w;
          high_loop = rq;
          schedule = hs;
        },
      )
