-- Schedules at P/Q: whole numbers X, one per transition, with X(v) - X(u) + e P ≥ Q a for every rule from u to v with offset e and delay a.
--
--   Keeps S D P Q X            == the values X keep every rule
--   Schedule S D n P Q X       == X is a schedule of n transitions
--   LeastSchedule S D n P Q X  == X is the schedule that is least in every place
use Rattle.std.specs.Prelude.{◌≡◌, List, ℕ, ◌+◌, ◌*◌, ◌≤◌, ◌<◌, length, get_or}
use Rattle.model.specs.Shape.{Shape}

abbrev pub Keeps : Shape → (ℕ → ℕ) → ℕ → ℕ → List ℕ → Type 0
Keeps S D P Q X = (r : ℕ) → r < S.rules → get_or X (S.source r) 0 + Q * D r ≤ get_or X (S.target r) 0 + P * S.offset r

pub record Schedule (S : Shape) (D : ℕ → ℕ) (n P Q : ℕ) (X : List ℕ) : Type 0 where
  pub size : length X ≡ n
  pub keeps : Keeps S D P Q X

pub record LeastSchedule (S : Shape) (D : ℕ → ℕ) (n P Q : ℕ) (X : List ℕ) : Type 0 where
  pub is_schedule : Schedule S D n P Q X
  pub least : (Y : List ℕ) → Schedule S D n P Q Y → (v : ℕ) → v < n → get_or X v 0 ≤ get_or Y v 0
