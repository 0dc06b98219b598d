-- What a climb from ratio to ratio ends with, and why that is the whole answer.
--
--   ClosedWalk S D a e      == a closed walk that is not empty, of delay sum a and offset sum e
--   walk_some               then there is a loop
--   closed_turns            where every loop turns, so does every closed walk
--   Climbed S D P Q X       == X is the least list of values that keeps every rule at P/Q, in lowest terms, and P/Q is 0/1 or some closed walk's
--   climbed_tight           if there is a loop, there is one of rules that are tight at X
--   climbed_period          and P/Q is the period
--   climbed_schedule        the first n values are the least schedule
--   climbed_reported        the first loop of tight rules is the reported loop
--   climbed_none            if there is no loop of tight rules, there is no loop
use Rattle.std.specs.Prelude.{◌≡◌, ◌⊎◌, List, ℕ, ◌*◌, ◌≤◌, ◌<◌, length, get_or, take}
use Rattle.std.proofs.Common.{ap, ⊎_elim, arith, length-take, get_or-take}
use Rattle.model.specs.Shape.{Shape, Fits}
use Rattle.model.specs.Sums.{delays, offsets}
use Rattle.model.specs.Walk.{Walk}
use Rattle.model.specs.Loop.{SomeLoop, NoLoop, Live}
use Rattle.model.specs.Ratio.{Lowest}
use Rattle.model.specs.Period.{Period}
use Rattle.model.specs.Schedule.{Keeps, LeastSchedule}
use Rattle.model.specs.Reported.{Reported}
use Rattle.theory.specs.Sums.{zero_all, all_zero}
use Rattle.theory.specs.Loop.{LoopOf, closed_loop}
use Rattle.theory.specs.Schedule.{TightRule, closed_not_above, attaining_of_rules, rules_of_attaining}
use Rattle.theory.specs.Relax.{Below}
use Rattle.theory.specs.First.{KindLoop, FirstLoop}
use Rattle.theory.specs.Near.{Any, all_any}
use Rattle.theory.specs.Period.{certified}
use Rattle.theory.specs.Reported.{first_reported}

pub record ClosedWalk (S : Shape) (D : ℕ → ℕ) (a e : ℕ) : Type 0 where
  pub at : ℕ
  pub walk : List ℕ
  pub some_rule : 0 < length walk
  pub closed : Walk S at at walk
  pub delays_are : delays D walk ≡ a
  pub offsets_are : offsets S walk ≡ e

pub walk_some : (S : Shape) (D : ℕ → ℕ) (a e : ℕ) → ClosedWalk S D a e → SomeLoop S
walk_some S D a e w = let l = closed_loop S Any w.at w.walk w.some_rule w.closed (all_any w.walk) in record { at = l.at; loop = l.loop; is_loop = l.is_loop }

-- a closed walk without a turn has only rules of offset 0, and a loop in it
pub closed_turns : (S : Shape) → Live S → (u : ℕ) (rs : List ℕ) → 0 < length rs → Walk S u u rs → 0 < offsets S rs
closed_turns S live u rs b h = pos (offsets S rs) none
  where
    pos : (x : ℕ) → (x ≡ 0 → ⊥) → 0 < x
    pos x f = omega arith

    none : offsets S rs ≡ 0 → ⊥
    none z =
        let l = closed_loop S (λ r. S.offset r ≡ 0) u rs b h (zero_all S rs z) in
        omega (arith, live l.at l.loop l.is_loop, all_zero S l.loop l.kind)

pub record Climbed (S : Shape) (D : ℕ → ℕ) (P Q : ℕ) (X : List ℕ) : Type 0 where
  pub q_pos : 0 < Q
  pub lowest : Lowest P Q
  pub keeps : Keeps S D P Q X
  pub least : (Y : List ℕ) → Keeps S D P Q Y → Below X Y
  pub attained : ((P ≡ 0) × (Q ≡ 1)) ⊎ ((a : ℕ) × (e : ℕ) × ClosedWalk S D a e × (Q * a ≡ P * e))

module _ (S : Shape) (D : ℕ → ℕ) (P Q : ℕ) (X : List ℕ) (c : Climbed S D P Q X) where
  -- at 0/1 every loop has delay sum 0 and attains it; else the closed walk does, and all its rules are tight
  pub climbed_tight : SomeLoop S → LoopOf S (TightRule S D P Q X)
  climbed_tight s = ⊎_elim zero walk c.attained
    where
      zero : (P ≡ 0) × (Q ≡ 1) → LoopOf S (TightRule S D P Q X)
      zero z =
          let high = closed_not_above S D P Q X c.keeps s.at s.loop s.is_loop.closed in
          let p = ap (λ x. x * offsets S s.loop) z.0 in
          let q = ap (λ x. x * delays D s.loop) z.1 in
          record { at = s.at; loop = s.loop; is_loop = s.is_loop; kind = rules_of_attaining S D P Q X c.keeps s.at s.loop s.is_loop.closed (omega arith) }

      walk : ((a : ℕ) × (e : ℕ) × ClosedWalk S D a e × (Q * a ≡ P * e)) → LoopOf S (TightRule S D P Q X)
      walk (a, e, w, t) =
          closed_loop S (TightRule S D P Q X) w.at w.walk w.some_rule w.closed
          (rules_of_attaining S D P Q X c.keeps w.at w.walk w.closed (omega (arith, t, ap (λ x. Q * x) w.delays_are, ap (λ x. P * x) w.offsets_are)))

  pub climbed_period : Live S → SomeLoop S → Period S D P Q
  climbed_period live s =
      let l = climbed_tight s in
      certified S D P Q X c.keeps l.at l.loop c.q_pos l.is_loop (live l.at l.loop l.is_loop)
      (attaining_of_rules S D P Q X c.keeps l.at l.loop l.is_loop.closed l.kind)

  -- above 0/1 the ratio is a closed walk's, and that has a loop in it
  pub climbed_reported : (u : ℕ) (rs : List ℕ) → FirstLoop S (TightRule S D P Q X) u rs → Reported S D P Q u rs
  climbed_reported = first_reported S D P Q X c.keeps

  pub climbed_none : ((u : ℕ) (rs : List ℕ) → ¬ (KindLoop S (TightRule S D P Q X) u rs)) → NoLoop S
  climbed_none none u rs l =
      let t = climbed_tight (record { at = u; loop = rs; is_loop = l }) in
      none t.at t.loop (record { is_loop = t.is_loop; kind = t.kind })

  pub climbed_schedule : (n : ℕ) → Fits S n → n ≤ length X → LeastSchedule S D n P Q (take n X)
  climbed_schedule n fits room =
      record {
        is_schedule = record { size = simp length-take (omega arith); keeps = λ r b. omega (arith, c.keeps r b, first (S.source r) (fits r b).0, first (S.target r) (fits r b).1) };
        least = λ Y y v b. omega (arith, first v b, c.least Y y.keeps v);
      }
    where
      first : (v : ℕ) → v < n → get_or (take n X) v 0 ≡ get_or X v 0
      first v b = get_or-take n X v 0 b
