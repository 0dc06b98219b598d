-- The rules of a list, without their delays. A rule is known by its number.
--
--   Shape       == how many rules there are; of rule r the source, the target and the offset
--   Fits S n    == every rule of S goes from and to transitions below n
use Rattle.std.specs.Prelude.{ℕ, ◌<◌}

-- the rules 0, 1, .. below `rules`: what the functions say past the last rule counts for nothing
pub record Shape : Type 0 where
  pub rules : ℕ
  pub source : ℕ → ℕ
  pub target : ℕ → ℕ
  pub offset : ℕ → ℕ

-- the transitions of every rule are below n
abbrev pub Fits : Shape → ℕ → Type 0
Fits S n = (r : ℕ) → r < S.rules → (S.source r < n) × (S.target r < n)
