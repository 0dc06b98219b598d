-- The period: proved by a schedule and a loop, one pair in lowest terms, growing with the delays, and there wherever every loop turns and one exists.
--
--   certified          a schedule at P/Q and a loop that turns and attains P/Q prove the period
--   slower             longer delays, no shorter period
--   period_unique      the period in lowest terms is one pair
--   climbs             of two ratios, the larger has more steps of 1 / B²: why climbing from loop to loop ends
--   period_exists      every loop turns and there is one: there is a period, in lowest terms
--   period_small       the pair in lowest terms is no larger than the sums of a loop
--   period_schedule    at the period there is a least schedule
--   period_closed      no closed walk is above the period
--   period_minimum     there is no schedule below the period
--   schedule_above     there is one at every ratio that is not below
use Rattle.std.specs.Prelude.{◌≡◌, List, ℕ, zero, suc, ◌+◌, ◌*◌, ◌/◌, ◌≤◌, ◌<◌, length, replicate}
use Rattle.std.proofs.Common.{sym, ap, ◌∙◌, ⊎_elim, arith, mul_comm, mul-le-mul, mul-le-mul_left, mul-le-mul_right, le_of_mul-le-mul_right, le_antisymm, div-mul-le_self, div-le_self, le-div_iff_mul-le, le_of_eq, le_trans}
use Rattle.std.proofs.Math.Nat.{le_of_mul-le-mul_left, eq_of_mul-eq-mul_right}
use Rattle.std.proofs.lemmas.List.{length-replicate}
use Rattle.model.specs.Shape.{Shape, Fits}
use Rattle.model.specs.Sums.{delays, offsets}
use Rattle.model.specs.Walk.{Walk}
use Rattle.model.specs.Loop.{Loop, SomeLoop, Live}
use Rattle.model.specs.Ratio.{Lowest}
use Rattle.model.specs.Period.{Attains, NotAbove, Period}
use Rattle.model.specs.Schedule.{Keeps, LeastSchedule}
use Rattle.theory.specs.Sums.{delays_more, delays_most, offsets_most}
use Rattle.theory.specs.Loop.{loop_short}
use Rattle.theory.specs.Ratio.{lowest_least, lowest_unique, divides_pos, reduced}
use Rattle.theory.specs.Schedule.{closed_not_above}
use Rattle.theory.specs.Relax.{values, zeros_at, length_passes, passes_least, keeps_or_above}

-- A SCHEDULE AND A LOOP PROVE A PERIOD. Over a loop the schedule comes back to where it was, so no loop's weight at P/Q is above 0.
pub certified : (S : Shape) (D : ℕ → ℕ) (P Q : ℕ) (X : List ℕ) → Keeps S D P Q X → (u : ℕ) (rs : List ℕ) → 0 < Q → Loop S u rs → 0 < offsets S rs → Attains S D P Q rs → Period S D P Q
certified S D P Q X keeps u rs q l turns t =
    record { q_pos = q; at = u; loop = rs; is_loop = l; turns = turns; attained = t; highest = λ v ss m. closed_not_above S D P Q X keeps v ss m.closed }

-- SLOWER DELAYS, LONGER PERIOD: the loop that attains the one is held by the other
pub slower : (S : Shape) (D E : ℕ → ℕ) → ((r : ℕ) → r < S.rules → D r ≤ E r) → (P Q P' Q' : ℕ) → Period S D P Q → Period S E P' Q' → P * Q' ≤ P' * Q
slower S D E more P Q P' Q' p q =
    le_of_mul-le-mul_right
    (omega (
      arith,
      ap (λ x. Q' * x) p.attained,
      mul-le-mul_left (Q * Q') (delays_more S D E more p.at p.at p.loop p.is_loop.closed),
      mul-le-mul_left Q (q.highest p.at p.loop p.is_loop),
    ))
    p.turns

-- ONLY ONE
pub period_unique : (S : Shape) (D : ℕ → ℕ) (P Q P' Q' : ℕ) → Period S D P Q → Lowest P Q → Period S D P' Q' → Lowest P' Q' → (P ≡ P') × (Q ≡ Q')
period_unique S D P Q P' Q' p l q m =
    lowest_unique P Q P' Q' p.q_pos q.q_pos l m
    (le_antisymm (slower S D D (λ r b. omega arith) P Q P' Q' p q) (slower S D D (λ r b. omega arith) P' Q' P Q q p))

-- THE CLIMB RISES: of two ratios p/q < p'/q' with denominators of at most B the second has the larger number of steps of 1 / B²
pub climbs : (B p q p' q' : ℕ) → 0 < q → 0 < q' → q ≤ B → q' ≤ B → p * q' < p' * q → p * (B * B) / q < p' * (B * B) / q'
climbs B p q p' q' h h' b b' l = (le-div_iff_mul-le h').1 (le_of_mul-le-mul_left enough h)
  where
    x : ℕ
    x = p * (B * B) / q

    enough : q * (suc x * q') ≤ q * (p' * (B * B))
    enough =
        omega (
          arith,
          mul-le-mul_right q' (div-mul-le_self (p * (B * B)) q),
          mul-le-mul b b',
          mul-le-mul_right (B * B) l,
        )

-- a period in other terms, divided through
pub period_divided : (S : Shape) (D : ℕ → ℕ) (P Q p q d : ℕ) → P ≡ p * d → Q ≡ q * d → Period S D P Q → Period S D p q
period_divided S D P Q p q d e_p e_q i =
    record {
      q_pos = divides_pos q Q i.q_pos (d, omega arith);
      at = i.at;
      loop = i.loop;
      is_loop = i.is_loop;
      turns = i.turns;
      attained = eq_of_mul-eq-mul_right d d_pos _ _ (omega (arith, i.attained, scaled_q i.loop, scaled_p i.loop));
      highest = λ u rs l. le_of_mul-le-mul_right (omega (arith, i.highest u rs l, scaled_q rs, scaled_p rs)) d_pos;
    }
  where
    d_pos : 0 < d
    d_pos = divides_pos d Q i.q_pos (q, e_q)

    scaled_q : (rs : List ℕ) → Q * delays D rs ≡ q * d * delays D rs
    scaled_q rs = ap (λ x. x * delays D rs) e_q

    scaled_p : (rs : List ℕ) → P * offsets S rs ≡ p * d * offsets S rs
    scaled_p rs = ap (λ x. x * offsets S rs) e_p

module _ (S : Shape) (D : ℕ → ℕ) (n : ℕ) (fits : Fits S n) (live : Live S) (B C : ℕ)
    (b_most : (u : ℕ) (rs : List ℕ) → Loop S u rs → offsets S rs ≤ B) (c_most : (u : ℕ) (rs : List ℕ) → Loop S u rs → delays D rs ≤ C) where
  -- (k: the depth of the recursion)
  climb : (k u : ℕ) (rs : List ℕ) → Loop S u rs → C * (B * B) < k + delays D rs * (B * B) / offsets S rs → (P : ℕ) × (Q : ℕ) × Period S D P Q
  climb zero u rs l b = absurd (omega (arith, div-le_self (delays D rs * (B * B)) (offsets S rs), mul-le-mul_right (B * B) (c_most u rs l)))
  climb (suc k) u rs l b =
      ⊎_elim
      (λ kept. (delays D rs, offsets S rs, certified S D (delays D rs) (offsets S rs) (values S D (delays D rs) (offsets S rs) n n) kept u rs (live u rs l) l (live u rs l) (mul_comm _ _)))
      (λ o. climb k o.at o.loop o.is_loop (omega (
        arith,
        climbs B (delays D rs) (offsets S rs) (delays D o.loop) (offsets S o.loop)
            (live u rs l) (live o.at o.loop o.is_loop) (b_most u rs l) (b_most o.at o.loop o.is_loop) (omega (arith, o.above)),
      )))
      (keeps_or_above S D (delays D rs) (offsets S rs) n fits (replicate n 0) (le_of_eq (sym (length-replicate n 0))) n (omega arith))

  -- THERE IS A PERIOD, IN LOWEST TERMS. From the ratio of any loop the search for a schedule finds one, or a loop of a larger ratio; ratios of loops
  -- have denominators of at most B, so two of them differ by at least 1 / B², and the climb ends.
  period_climbed : (u : ℕ) (rs : List ℕ) → Loop S u rs → (P : ℕ) × (Q : ℕ) × Period S D P Q × Lowest P Q
  period_climbed u rs l =
      let (P, Q, i) = climb (suc (C * (B * B))) u rs l (omega arith) in
      let (p, q, d, R) = reduced P Q i.q_pos in
      (p, q, period_divided S D P Q p q d R.p_is R.q_is i, R.lowest)

-- sums over a loop are at most the number of transitions times the largest term
module _ (S : Shape) (n : ℕ) (fits : Fits S n) where
  pub loop_offsets : (E : ℕ) → ((r : ℕ) → r < S.rules → S.offset r ≤ E) → (u : ℕ) (rs : List ℕ) → Loop S u rs → offsets S rs ≤ n * E
  loop_offsets E most u rs l = le_trans (offsets_most S E most u u rs l.closed) (mul-le-mul_right E (loop_short S n fits u rs l))

  pub loop_delays : (D : ℕ → ℕ) (M : ℕ) → ((r : ℕ) → r < S.rules → D r ≤ M) → (u : ℕ) (rs : List ℕ) → Loop S u rs → delays D rs ≤ n * M
  loop_delays D M most u rs l = le_trans (delays_most S D M most u u rs l.closed) (mul-le-mul_right M (loop_short S n fits u rs l))

  -- EVERY LIST WITH A LOOP, ALL OF WHOSE LOOPS TURN, HAS A PERIOD
  pub period_exists : (E M : ℕ) → ((r : ℕ) → r < S.rules → S.offset r ≤ E) → (D : ℕ → ℕ) → ((r : ℕ) → r < S.rules → D r ≤ M) → Live S → SomeLoop S
      → (P : ℕ) × (Q : ℕ) × Period S D P Q × Lowest P Q
  period_exists E M off D most live some =
      period_climbed S D n fits live (n * E) (n * M) (loop_offsets E off) (loop_delays D M most) some.at some.loop some.is_loop

-- the pair in lowest terms is no larger than the sums of the loop that attains it
pub period_small : (S : Shape) (D : ℕ → ℕ) (P Q : ℕ) → (p : Period S D P Q) → Lowest P Q → (Q ≤ offsets S p.loop) × (P ≤ delays D p.loop)
period_small S D P Q p low = (q_most, le_of_mul-le-mul_right (omega (arith, p.attained, mul-le-mul_right (delays D p.loop) q_most)) p.turns)
  where
    q_most : Q ≤ offsets S p.loop
    q_most = lowest_least P Q low (suc (offsets S p.loop)) (delays D p.loop) (offsets S p.loop) (omega arith) p.turns (omega (arith, p.attained))

-- the least schedule at a ratio at which no loop is above is what the search comes to
module _ (S : Shape) (D : ℕ → ℕ) (n P Q : ℕ) (fits : Fits S n) (highest : (u : ℕ) (rs : List ℕ) → Loop S u rs → NotAbove S D P Q rs) where
  room : n ≤ length {A = ℕ} (replicate n 0)
  room = le_of_eq (sym (length-replicate n 0))

  -- A SCHEDULE EXISTS AT EVERY RATIO THAT IS NOT BELOW THE PERIOD
  pub schedule_above : LeastSchedule S D n P Q (values S D P Q n n)
  schedule_above =
      record {
        is_schedule = record {
          size = length_passes S D P Q n (replicate n 0) ∙ length-replicate n 0;
          keeps = ⊎_elim (λ k. k) (λ o. absurd (omega (arith, o.above, highest o.at o.loop o.is_loop))) (keeps_or_above S D P Q n fits (replicate n 0) room n (omega arith));
        };
        least = λ Y y v b. passes_least S D P Q n fits Y y.keeps (replicate n 0) n room (λ w. omega (arith, zeros_at n w)) v;
      }

module _ (S : Shape) (D : ℕ → ℕ) (P Q : ℕ) (p : Period S D P Q) where
  pub period_schedule : (n : ℕ) → Fits S n → LeastSchedule S D n P Q (values S D P Q n n)
  period_schedule n fits = schedule_above S D n P Q fits p.highest

  -- THE THESIS'S CYCLES: every closed walk, also one that visits a transition twice, is within the period
  pub period_closed : (n : ℕ) → Fits S n → (u : ℕ) (rs : List ℕ) → Walk S u u rs → NotAbove S D P Q rs
  period_closed n fits u rs h = closed_not_above S D P Q (values S D P Q n n) (period_schedule n fits).is_schedule.keeps u rs h

  -- THE THESIS'S MINIMUM: where there is a schedule at p/q, p/q is not below the period
  pub period_minimum : (p q : ℕ) (Y : List ℕ) → Keeps S D p q Y → P * q ≤ p * Q
  period_minimum p' q Y k =
      le_of_mul-le-mul_right
      (omega (arith, ap (λ x. q * x) p.attained, mul-le-mul_left Q (closed_not_above S D p' q Y k p.at p.loop p.is_loop.closed)))
      p.turns
