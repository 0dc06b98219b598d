-- Lowest terms.
--
--   Divides d n   == n is a multiple of d
--   Lowest P Q    == P/Q is in lowest terms; of the ratios that are zero only 0/1 is
use Rattle.std.specs.Prelude.{◌≡◌, ℕ, ◌*◌}

abbrev pub Divides : ℕ → ℕ → Type 0
Divides d n = (k : ℕ) × (n ≡ k * d)

-- only 1 divides both
abbrev pub Lowest : ℕ → ℕ → Type 0
Lowest P Q = (d : ℕ) → Divides d P → Divides d Q → d ≡ 1
