-- The blocks worked by hand, as tables.
--
--   rule s t e d     the rule s>t/e/d
--   block n rs       the table of n transitions with the rules rs
--   P1 .. P9         the blocks
use Rattle.std.specs.Prelude.{List, [], ◌∷◌, ◌++◌, ℕ, ◌-◌, length, replicate}
use Rattle.table.specs.declared.Delay.{Delay}
use Rattle.table.specs.declared.Delay.TheVariants.{Known, Unknown}
use Rattle.table.specs.declared.Rule.{Rule}
use Rattle.table.specs.declared.Table.{Table}
use Rattle.table.specs.Limits.{max_m}
use Rattle.table.specs.Form.{unused_rule}

abbrev pub rule : ℕ → ℕ → ℕ → Delay → Rule
rule s t e d = record { source = s; target = t; offset = e; delay = d }

-- the rules in the first places, and every other place unused
abbrev pub block : ℕ → List Rule → Table
block n rs = record { n = n; m = length rs; rules = rs ++ replicate (max_m - length rs) unused_rule }

abbrev pub P1 : Table
P1 = block 2 (rule 0 1 0 (Known 3) ∷ rule 1 0 1 (Known 4) ∷ [])

abbrev pub P2 : Table
P2 = block 2 (rule 0 1 0 (Known 3) ∷ rule 1 0 2 (Known 4) ∷ [])

abbrev pub P3 : Table
P3 = block 2 (rule 0 1 0 (Known 3) ∷ rule 1 0 1 Unknown ∷ [])

abbrev pub P4 : Table
P4 = block 2 (rule 0 1 0 (Known 0) ∷ rule 1 0 2 Unknown ∷ rule 0 0 1 (Known 1000000) ∷ [])

abbrev pub P5 : Table
P5 = block 1 (rule 0 0 1 Unknown ∷ [])

abbrev pub P6 : Table
P6 = block 1 (rule 0 0 1 (Known 0) ∷ [])

abbrev pub P7 : Table
P7 = block 1 (rule 0 0 0 (Known 0) ∷ [])

abbrev pub P8 : Table
P8 = block 2 (rule 0 1 1 (Known 5) ∷ [])

abbrev pub P9 : Table
P9 = block 1 []
