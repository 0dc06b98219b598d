-- Loops.
--
--   Loop S u rs    == the rules rs, read from transition u, are a loop
--   SomeLoop S     == there is a loop
--   NoLoop S       == there is none
--   Live S         == every loop has a turn: an offset sum above 0
use Rattle.std.specs.Prelude.{List, ℕ, ◌<◌, length}
use Rattle.model.specs.Shape.{Shape}
use Rattle.model.specs.Sums.{offsets}
use Rattle.model.specs.Distinct.{Distinct}
use Rattle.model.specs.Walk.{Walk, sources}

-- a non-empty sequence of rules, each starting where the one before ended, the last ending where the first started, that visits no transition twice
pub record Loop (S : Shape) (u : ℕ) (rs : List ℕ) : Type 0 where
  pub some_rule : 0 < length rs
  pub closed : Walk S u u rs
  pub simple : Distinct (sources S rs)

pub record SomeLoop (S : Shape) : Type 0 where
  pub at : ℕ
  pub loop : List ℕ
  pub is_loop : Loop S at loop

abbrev pub NoLoop : Shape → Type 0
NoLoop S = (u : ℕ) (rs : List ℕ) → ¬ (Loop S u rs)

abbrev pub Live : Shape → Type 0
Live S = (u : ℕ) (rs : List ℕ) → Loop S u rs → 0 < offsets S rs
