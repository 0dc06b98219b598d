-- The rate of a transition: the largest, over the loops from which it can be reached along rules, of (sum of delays) / (sum of offsets).
-- A loop is the same loop from whichever of its transitions it is read, so that a way from where it is read is a way from any of them.
--
--   Reaches S u v        == rules lead from transition u to transition v: none are needed where u is v
--   LoopTo S v u rs      == rs, read from u, is a loop that reaches v
--   SomeLoopTo S v       == there is one
--   NoLoopTo S v         == there is none
--   Rate S D v P Q       == P/Q is the rate of v with the delays D, in some terms
--   Rates S K v a        == a is the range of the rate of v
use Rattle.std.specs.Prelude.{List, ℕ, ◌<◌}
use Rattle.model.specs.Shape.{Shape}
use Rattle.model.specs.Sums.{offsets}
use Rattle.model.specs.Walk.{Walk}
use Rattle.model.specs.Loop.{Loop}
use Rattle.model.specs.Period.{Attains, NotAbove}
use Rattle.model.specs.Filling.{Ranges}
use Rattle.model.specs.Ends.{Range, RangeOf}

pub record Reaches (S : Shape) (u v : ℕ) : Type 0 where
  pub way : List ℕ
  pub leads : Walk S u v way

-- a loop on which v lies reaches v: read from v, no rule more is needed
pub record LoopTo (S : Shape) (v u : ℕ) (rs : List ℕ) : Type 0 where
  pub is_loop : Loop S u rs
  pub reaches : Reaches S u v

pub record SomeLoopTo (S : Shape) (v : ℕ) : Type 0 where
  pub at : ℕ
  pub loop : List ℕ
  pub is_loop_to : LoopTo S v at loop

abbrev pub NoLoopTo : Shape → ℕ → Type 0
NoLoopTo S v = (u : ℕ) (rs : List ℕ) → ¬ (LoopTo S v u rs)

-- a loop that reaches v and has a turn attains P/Q, and no loop that reaches v is above it
pub record Rate (S : Shape) (D : ℕ → ℕ) (v P Q : ℕ) : Type 0 where
  pub q_pos : 0 < Q
  pub at : ℕ
  pub loop : List ℕ
  pub is_loop_to : LoopTo S v at loop
  pub turns : 0 < offsets S loop
  pub attained : Attains S D P Q loop
  pub highest : (u : ℕ) (rs : List ℕ) → LoopTo S v u rs → NotAbove S D P Q rs

-- a is the range of the rate of v, over all fillings
abbrev pub Rates : Shape → Ranges → ℕ → Range → Type 0
Rates S K v a = RangeOf S K (λ D. Rate S D v) a
