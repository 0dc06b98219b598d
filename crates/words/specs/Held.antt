-- A text as a call hands it back.
--
--   room                more bytes than a text has
--   Holds r x           r holds the whole of x, with its length, and zeros after it
--
-- Theorems: held_unique (a text is held in one way), holds_part (where it stands), holds_put (what was put into a fresh buffer is held whole).
use Rattle.std.specs.Prelude.{◌≡◌, List, ◌++◌, ℕ, ◌-◌, ◌≤◌, ◌<◌, length, take, replicate}
use Rattle.std.proofs.Common.{sym, ap, ◌∙◌, subst, arith, length-append}
use Rattle.std.proofs.Math.Seq.{take-append_seam}
use Rattle.words.specs.declared.Text.{Text}
use Rattle.words.specs.Puts.{Puts, puts_whole}

-- more bytes than a text has
abbrev pub room : ℕ
room = 16384

-- all of x is in r, with its length, and zeros after it
pub record Holds (r : Text) (x : List ℕ) : Type 0 where
  pub fits : length x ≤ room
  pub result : r ≡ record { len = length x; bytes = x ++ replicate (room - length x) 0 }

-- HELD IN ONE WAY
pub held_unique : (x y : List ℕ) (r s : Text) → x ≡ y → Holds r x → Holds s y → r ≡ s
held_unique x y r s e a b =
    a.result ∙ ap (λ (z : List ℕ). record { len = length z; bytes = z ++ replicate (room - length z) 0 }) e ∙ sym b.result

-- WHAT IS HELD IS THE FIRST `len` BYTES, and these are there
pub holds_part : (r : Text) (x : List ℕ) → Holds r x → (r.len ≤ length r.bytes) × (r.len ≡ length (take r.len r.bytes)) × (take r.len r.bytes ≡ x)
holds_part r x held =
    let zeros = replicate {A = ℕ} (room - length x) 0 in
    subst (λ (h : Text). (h.len ≤ length h.bytes) × (h.len ≡ length (take h.len h.bytes)) × (take h.len h.bytes ≡ x)) (sym held.result)
    (omega (arith, length-append x zeros), sym (ap length (take-append_seam x zeros)), take-append_seam x zeros)

-- what was put into a fresh buffer, and did not fill it, is held whole
pub holds_put : (s o : List ℕ) (p : ℕ) → Puts s (replicate room 0) 0 o p → p < room → Holds (record { len = p; bytes = o }) s
holds_put s o p a h =
    let w = puts_whole s o room p a h in
    record { fits = w.0; result = made_same p o (length s) (s ++ replicate (room - length s) 0) w.1 w.2 }
  where
    made_same : (n : ℕ) (x : List ℕ) (m : ℕ) (y : List ℕ) → n ≡ m → x ≡ y → ◌≡◌ {A = Text} (record { len = n; bytes = x }) (record { len = m; bytes = y })
    made_same n x m y e f = cc
