-- What the search for the period promises, step by step. S is the shape, D the delays, n the number of transitions.
--
--   Valid S par                   == par holds 1 more than the number of a rule into the transition, or 0
--   ParentLoop S D par n a e      == a closed walk of parents, not empty, of delay sum a and offset sum e
--   Scanned S D n par met         == what a look at all parents finds: such a walk, or every transition is grounded
--   Passed S D P Q c k x₀ x par f == a pass from x₀ to x, the one after k passes, that raised something (f) or nothing
--   LowWalk S D n a e             == a closed walk, not empty, with sums that n rules can have
--   Started S D n met             == such a walk, where one was found
--   LeastAt S D P Q x             == the values x keep every rule at P/Q, and are the least that do
--   Higher S D P Q n a e          == a low walk above P/Q
--   Settled S D P Q n x met       == the search at P/Q ended: with the least values, or with such a walk
--   Reached S D P Q x             == the climb ended at P/Q, with the values x
use Rattle.std.specs.Prelude.{◌≡◌, Bool, true, false, Option, List, ℕ, suc, ◌*◌, ◌≤◌, ◌<◌, length, get_or}
use Rattle.std.specs.Option.{ForSome, ForNone}
use Rattle.model.specs.Shape.{Shape}
use Rattle.model.specs.Sums.{delays, offsets}
use Rattle.model.specs.Walk.{Walk}
use Rattle.model.specs.Schedule.{Keeps}
use Rattle.theory.specs.Relax.{Below}
use Rattle.theory.specs.Parents.{Parents, Grounded}
use Rattle.theory.specs.Raise.{Raised}
use Rattle.theory.specs.Climb.{ClosedWalk, Climbed}
use Rattle.search.specs.declared.scan.Walk.{Walk as Met}

abbrev pub Valid : Shape → List ℕ → Type 0
Valid S par = (v r : ℕ) → get_or par v 0 ≡ suc r → (r < S.rules) × (S.target r ≡ v)

pub record ParentLoop (S : Shape) (D : ℕ → ℕ) (par : List ℕ) (n a e : ℕ) : Type 0 where
  pub at : ℕ
  pub walk : List ℕ
  pub some_rule : 0 < length walk
  pub closed : Walk S at at walk
  pub parents : Parents S par walk
  pub delays_are : delays D walk ≡ a
  pub offsets_are : offsets S walk ≡ e
  pub delays_low : a ≤ n * 1000000
  pub offsets_low : e ≤ n * 15

pub record Scanned (S : Shape) (D : ℕ → ℕ) (n : ℕ) (par : List ℕ) (met : Option Met) : Type 0 where
  pub some : ForSome met (λ w. ParentLoop S D par n w.delays w.offsets)
  pub none : ForNone met ((v : ℕ) → v < n → Grounded S n par v)

-- no value is above c afterwards
pub record Passed (S : Shape) (D : ℕ → ℕ) (P Q c k : ℕ) (x₀ x par : List ℕ) (f : Bool) : Type 0 where
  pub raised : Raised S D P Q c (suc k) x par
  pub quiet : f ≡ false → Keeps S D P Q x
  pub busy : f ≡ true → (r : ℕ) × (r < S.rules) × (get_or x₀ (S.target r) 0 < get_or x (S.target r) 0)

pub record LowWalk (S : Shape) (D : ℕ → ℕ) (n a e : ℕ) : Type 0 where
  pub is_walk : ClosedWalk S D a e
  pub delays_low : a ≤ n * 1000000
  pub offsets_low : e ≤ n * 15

abbrev pub Started : Shape → (ℕ → ℕ) → ℕ → Option Met → Type 0
Started S D n met = ForSome met (λ w. LowWalk S D n w.delays w.offsets)

pub record LeastAt (S : Shape) (D : ℕ → ℕ) (P Q : ℕ) (x : List ℕ) : Type 0 where
  pub keeps : Keeps S D P Q x
  pub least : (Y : List ℕ) → Keeps S D P Q Y → Below x Y
  pub size : length x ≡ 256

pub record Higher (S : Shape) (D : ℕ → ℕ) (P Q n a e : ℕ) : Type 0 where
  pub walk : LowWalk S D n a e
  pub above : P * e < Q * a

pub record Settled (S : Shape) (D : ℕ → ℕ) (P Q n : ℕ) (x : List ℕ) (met : Option Met) : Type 0 where
  pub quiet : ForNone met (LeastAt S D P Q x)
  pub walk : ForSome met (λ w. Higher S D P Q n w.delays w.offsets)

-- no value is above the delays of 255 rules, times 3,840
pub record Reached (S : Shape) (D : ℕ → ℕ) (P Q : ℕ) (x : List ℕ) : Type 0 where
  pub climbed : Climbed S D P Q x
  pub p_low : P ≤ 256000000
  pub q_low : Q ≤ 3840
  pub size : length x ≡ 256
  pub low : (v : ℕ) → get_or x v 0 ≤ 979200000000
