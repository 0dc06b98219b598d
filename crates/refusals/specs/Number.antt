-- The number of each reason to refuse, as a user sees it.
--
--   number_of w                the number of the reason w: 1 to 10
--   Told, told r               what a user is told of an answer r: number 0 and place 0 where it was given, or those of its refusal
use Prim.{Unit}
use Rattle.std.specs.Prelude.{ℕ, ◌≡◌, ◌==◌, ◌<◌, refl, Bool, true, false, Result, Ok, Err}
use Rattle.std.proofs.Common.{arith, sym, ap, ◌∙◌}
use Rattle.refusals.specs.declared.Why.{Why}
use Rattle.refusals.specs.declared.Why.TheVariants.{Cut, Long, Range, Tail, Loop, Flat, Unknown, Room, Span, Name}
use Rattle.refusals.specs.declared.Refusal.{Refusal}

abbrev pub number_of : Why → ℕ
number_of Cut = 1
number_of Long = 2
number_of Range = 3
number_of Tail = 4
number_of Loop = 5
number_of Flat = 6
number_of Unknown = 7
number_of Room = 8
number_of Span = 9
number_of Name = 10

-- a number and a place, or 0 and 0
pub record Told : Type 0 where
  pub refusal : ℕ
  pub place : ℕ

abbrev pub told : {A : Type 0} → Result A Refusal → Told
told (Ok _) = record { refusal = 0; place = 0 }
told (Err e) = record { refusal = number_of e.why; place = e.place }

-- every reason has a number above 0
pub number_positive : (w : Why) → 0 < number_of w
number_positive Cut = omega arith
number_positive Long = omega arith
number_positive Range = omega arith
number_positive Tail = omega arith
number_positive Loop = omega arith
number_positive Flat = omega arith
number_positive Unknown = omega arith
number_positive Room = omega arith
number_positive Span = omega arith
number_positive Name = omega arith

-- the reason with a number
abbrev reason_if : Bool → Why → Why → Why
reason_if true v w = v
reason_if false v w = w

abbrev reason : ℕ → Why
reason n =
    reason_if (n == 1) Cut (reason_if (n == 2) Long (reason_if (n == 3) Range (reason_if (n == 4) Tail (reason_if (n == 5) Loop
    (reason_if (n == 6) Flat (reason_if (n == 7) Unknown (reason_if (n == 8) Room (reason_if (n == 9) Span Name))))))))

numbered : (w : Why) → reason (number_of w) ≡ w
numbered Cut = refl
numbered Long = refl
numbered Range = refl
numbered Tail = refl
numbered Loop = refl
numbered Flat = refl
numbered Unknown = refl
numbered Room = refl
numbered Span = refl
numbered Name = refl

-- ONE NUMBER, ONE REASON
pub number_once : (v w : Why) → number_of v ≡ number_of w → v ≡ w
number_once v w e = sym (numbered v) ∙ ap reason e ∙ numbered w

-- WHAT IS TOLD SAYS ALL: an answer that hands back nothing else
pub told_once : (x y : Result Unit Refusal) → told x ≡ told y → x ≡ y
told_once (Ok _) (Ok _) e = refl
told_once (Ok _) (Err f) e = absurd (omega (arith, number_positive f.why, ap (λ (t : Told). t.refusal) e))
told_once (Err f) (Ok _) e = absurd (omega (arith, number_positive f.why, ap (λ (t : Told). t.refusal) e))
told_once (Err f) (Err g) e =
    ap Err (ap (λ w. record { why = w; place = f.place }) (number_once f.why g.why (ap (λ (t : Told). t.refusal) e))
    ∙ ap (λ p. record { why = g.why; place = p }) (ap (λ (t : Told). t.place) e))
