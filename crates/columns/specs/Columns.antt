-- A checked table as columns: arrays of numbers, by the rule's number; two of them for its least and greatest delays.
--
--   shape source target offset m    == the shape that the columns say
--   delay_at delay r                 == the delay of rule r
--   Limits source target offset m n == its transitions and offsets are within the table's limits
--   Short delay m                   == and so are its delays
--   Ordered least greatest m blank  == two columns of delays, of which `blank` tells whether they differ
use Rattle.std.specs.Prelude.{◌≡◌, Bool, false, ℕ, ◌≤◌, ◌<◌, List, get_or}
use Rattle.model.specs.Shape.{Shape, Fits}
use Rattle.table.specs.Limits.{min_n, max_n, max_m, max_offset, max_delay}

abbrev pub shape : List ℕ → List ℕ → List ℕ → ℕ → Shape
shape source target offset m = record { rules = m; source = λ r. get_or source r 0; target = λ r. get_or target r 0; offset = λ r. get_or offset r 0 }

abbrev pub delay_at : List ℕ → ℕ → ℕ
delay_at delay r = get_or delay r 0

pub record Limits (source target offset : List ℕ) (m n : ℕ) : Type 0 where
  pub few_rules : m ≤ max_m
  pub some_transition : min_n ≤ n
  pub few_transitions : n ≤ max_n
  pub fits : Fits (shape source target offset m) n
  pub small_offsets : (r : ℕ) → r < m → get_or offset r 0 ≤ max_offset

abbrev pub Short : List ℕ → ℕ → Type 0
Short delay m = (r : ℕ) → r < m → get_or delay r 0 ≤ max_delay

-- what two columns of delays are asked for, where blank tells whether they differ
pub record Ordered (least greatest : List ℕ) (m : ℕ) (blank : Bool) : Type 0 where
  pub short_least : Short least m
  pub short_greatest : Short greatest m
  pub in_order : (r : ℕ) → r < m → get_or least r 0 ≤ get_or greatest r 0
  pub no_blank : blank ≡ false → (r : ℕ) → r < m → get_or least r 0 ≡ get_or greatest r 0
