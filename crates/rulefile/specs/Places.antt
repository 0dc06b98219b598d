-- WHERE A REFUSED FILE IS WRONG: refusals 1 to 3 name a byte of the file, or its length.
--
--   cut_names       refusal 1 names the file's length
--   long_names      refusal 2 names the byte of the first faulty number that breaks the rule
--   range_names     refusal 3 names the first byte of that number
use Rattle.std.specs.Prelude.{ℕ, zero, suc, ◌+◌, ◌≤◌, ◌≡◌, refl, List, length, drop}
use Rattle.std.proofs.Common.{sym, ◌∙◌, arith, length-drop}
use Rattle.sevens.specs.Laws.{BadByte, cut_length, long_byte}
use Rattle.rulefile.specs.File.{groups, num_at, refused_read, read_of}
use Rattle.rulefile.specs.Steps.{num_cases}
use Rattle.rulefile.specs.Order.{lowest, highest, n_of, start_of, FirstFault, refused_iff}

-- ---- one number

module _ (s : List ℕ) (at low high : ℕ) where
  num_next : (num_at s at low high).next ≤ length s
  num_next = num_cases s at low high (λ z. z.next ≤ length s) (λ e. omega arith) (λ e. omega arith) (λ v k e o. omega arith) (λ v k e l h. omega arith)

  num_cut_at : at ≤ length s → (num_at s at low high).refusal ≡ 1 → (num_at s at low high).place ≡ length s
  num_cut_at h =
      num_cases s at low high (λ z. z.refusal ≡ 1 → z.place ≡ length s)
      (λ e f. omega (arith, cut_length groups (drop at s), length-drop at s))
      (λ e f. absurd (omega arith)) (λ v k e o f. absurd (omega arith)) (λ v k e l h f. absurd (omega arith))

  num_long_at : (num_at s at low high).refusal ≡ 2 → (i : ℕ) × ((num_at s at low high).place ≡ at + i) × BadByte groups (drop at s) i
  num_long_at =
      num_cases s at low high (λ z. z.refusal ≡ 2 → (i : ℕ) × (z.place ≡ at + i) × BadByte groups (drop at s) i)
      (λ e f. absurd (omega arith)) (λ e f. (_, refl, long_byte groups (drop at s) (omega arith) e))
      (λ v k e o f. absurd (omega arith)) (λ v k e l h f. absurd (omega arith))

  num_range_at : (num_at s at low high).refusal ≡ 3 → (num_at s at low high).place ≡ at
  num_range_at =
      num_cases s at low high (λ z. z.refusal ≡ 3 → z.place ≡ at)
      (λ e f. absurd (omega arith)) (λ e f. absurd (omega arith)) (λ v k e o f. omega arith) (λ v k e l h f. absurd (omega arith))

start_within : (s : List ℕ) (k : ℕ) → start_of s k ≤ length s
unfolding start_of
start_within s zero = omega arith
start_within s (suc k) = num_next s (start_of s k) (lowest k) (highest (n_of s) k)

-- ---- a file

-- REFUSAL 1 NAMES THE FILE'S LENGTH
pub cut_names : (s : List ℕ) (p : ℕ) → read_of s ≡ refused_read 1 p → p ≡ length s
cut_names s p e =
    let f = (refused_iff s 1 p (omega arith) (omega arith)).0 e in
    sym f.3 ∙ num_cut_at s (start_of s f.0) (lowest f.0) (highest (n_of s) f.0) (start_within s f.0) f.2

-- REFUSAL 2 NAMES THE BYTE THAT BREAKS THE RULE, in the first faulty number
pub long_names : (s : List ℕ) (p : ℕ) → read_of s ≡ refused_read 2 p
    → (k : ℕ) × FirstFault s k × (i : ℕ) × (p ≡ start_of s k + i) × BadByte groups (drop (start_of s k) s) i
long_names s p e =
    let f = (refused_iff s 2 p (omega arith) (omega arith)).0 e in
    let x = num_long_at s (start_of s f.0) (lowest f.0) (highest (n_of s) f.0) f.2 in
    (f.0, f.1, x.0, sym f.3 ∙ x.1, x.2)

-- REFUSAL 3 NAMES THE FIRST BYTE of the first faulty number
pub range_names : (s : List ℕ) (p : ℕ) → read_of s ≡ refused_read 3 p → (k : ℕ) × FirstFault s k × (p ≡ start_of s k)
range_names s p e =
    let f = (refused_iff s 3 p (omega arith) (omega arith)).0 e in
    (f.0, f.1, sym f.3 ∙ num_range_at s (start_of s f.0) (lowest f.0) (highest (n_of s) f.0) f.2)
