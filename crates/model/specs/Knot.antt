-- A loop without a turn, and where it is named.
--
--   Knot S u   == u is the lowest transition on any loop of offset sum 0
use Rattle.std.specs.Prelude.{◌≡◌, List, ℕ, ◌≤◌}
use Rattle.model.specs.Shape.{Shape}
use Rattle.model.specs.Sums.{offsets}
use Rattle.model.specs.Loop.{Loop}

pub record Knot (S : Shape) (u : ℕ) : Type 0 where
  pub loop : List ℕ
  pub is_loop : Loop S u loop
  pub no_turn : offsets S loop ≡ 0
  pub lowest : (w : ℕ) (qs : List ℕ) → Loop S w qs → offsets S qs ≡ 0 → u ≤ w
