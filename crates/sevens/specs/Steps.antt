-- What the code's proofs cite: the number as far as it was read, and the code as far as it was written.
--
--   carried v scale i x     what i groups that came to v, the last of them followed by another, come to before x
use Rattle.std.specs.Prelude.{ℕ, zero, suc, ◌+◌, ◌-◌, ◌*◌, ◌/◌, ◌%◌, ◌^◌, ◌≤◌, ◌<◌, List, [], ◌∷◌, ◌≡◌, refl, length, get_or, drop, take, set, leb}
use Rattle.std.proofs.Math.Logic.{by_cases}
use Rattle.std.proofs.Math.Path.{ap}
use Rattle.std.proofs.Common.{sym, ◌∙◌, add-one, pow-suc, mul-le-mul, drop-cons}
use native.Mathlib.Omega.{arith}
use Rattle.std.proofs.Math.Decide.{dec_lt}
use Rattle.std.proofs.Math.Nat.{pow-le-pow_right}
use Rattle.std.proofs.Math.ListN.{length-drop}
use borrow.Author.Tests.{lt-ltb, le-ltb, lt-leb, le-leb}
use Rattle.std.proofs.lemmas.List.Edits.{sets}
use Rattle.std.specs.List.{prefix_len}
use Rattle.sevens.specs.declared.Raw.{Raw}
use Rattle.sevens.specs.declared.Raw.TheVariants.{Cut, Long, Value}
use Rattle.sevens.specs.Sevens.{followed, raw_of, marked, code_of, code_length_of, put_of}
use Rattle.sevens.specs.Laws.{raw_last, raw_more, value_same, code_last, code_more, put_room}

-- ---- reading group after group

unfoldable pub carried : ℕ → ℕ → ℕ → Raw → Raw
carried v scale i Cut = Cut
carried v scale i Long = Long
carried v scale i (Value zero k) = Long
carried v scale i (Value (suc w) k) = Value (v + scale * suc w) (k + i)

carried_value : (v scale i w k : ℕ) → 1 ≤ w → carried v scale i (Value w k) ≡ Value (v + scale * w) (k + i)
unfolding carried
carried_value v scale i zero k h = absurd (omega arith)
carried_value v scale i (suc w) k h = refl

-- one group more
carried_followed : (v scale i b : ℕ) (x : Raw) → carried v scale i (followed b x) ≡ carried (v + (b - 128) * scale) (scale * 128) (i + 1) x
unfolding carried followed
carried_followed v scale i b Cut = refl
carried_followed v scale i b Long = refl
carried_followed v scale i b (Value zero k) = refl
carried_followed v scale i b (Value (suc w) k) =
    carried_value v scale i (b - 128 + 128 * suc w) (k + 1) (omega arith) ∙ value_same _ _ _ _ (omega arith) (omega arith)

followed_carried : (b : ℕ) (x : Raw) → followed b x ≡ carried (b - 128) 128 1 x
unfolding carried followed
followed_carried b Cut = refl
followed_carried b Long = refl
followed_carried b (Value zero k) = refl
followed_carried b (Value (suc w) k) = refl

-- where groups and bytes are left, the number is that of the byte at i and what comes after it
raw_at : (g i : ℕ) (s : List ℕ) → i < g → i < length s → raw_of (g - i) (drop i s) ≡ raw_of (suc (g - (i + 1))) (get_or s i 0 ∷ drop (i + 1) s)
raw_at g i s h f =
    let e : g - i ≡ suc (g - (i + 1)) = omega arith in
    ap (λ n. raw_of n (drop i s)) e ∙ rw (add-one, drop-cons s i 0)

pub raw_none : (g : ℕ) (s : List ℕ) → (1 ≤ g) × (length s ≡ 0) → raw_of g s ≡ Cut
unfolding raw_of
raw_none zero s h = absurd (omega arith)
raw_none (suc g) [] h = refl
raw_none (suc g) (b ∷ s) h = absurd (omega arith)

pub raw_one : (g b : ℕ) (s : List ℕ) → (1 ≤ g) × (1 ≤ length s) × (b ≡ get_or s 0 0) × (b < 128) → raw_of g s ≡ Value b 1
raw_one zero b s h = absurd (omega arith)
raw_one (suc g) b [] h = absurd (omega arith)
raw_one (suc g) b (a ∷ s) h = raw_last g a s (omega arith) ∙ value_same _ _ _ _ (sym h.2) refl

pub carried_start : (g b : ℕ) (s : List ℕ) → (1 ≤ g) × (1 ≤ length s) × (b ≡ get_or s 0 0) × (128 ≤ b)
    → raw_of g s ≡ carried (b - 128) 128 1 (raw_of (g - 1) (drop 1 s))
carried_start zero b s h = absurd (omega arith)
carried_start (suc g) b [] h = absurd (omega arith)
carried_start (suc g) b (a ∷ s) h =
    let e : g ≡ suc g - 1 = omega arith in
    raw_more g a s (omega arith)
    ∙ followed_carried a (raw_of g s)
    ∙ ap (λ n. carried (a - 128) 128 1 (raw_of n s)) e
    ∙ ap (λ n. carried (n - 128) 128 1 (raw_of (suc g - 1) s)) (sym h.2)

module _ (x : Raw) (g v scale i : ℕ) (s : List ℕ) (so : x ≡ carried v scale i (raw_of (g - i) (drop i s))) where
  pub carried_cut : (i < g) × (length s ≤ i) → x ≡ Cut
  unfolding carried
  carried_cut h = so ∙ ap (carried v scale i) (raw_none (g - i) (drop i s) (omega (arith, length-drop i s)))

  pub carried_zero : (b : ℕ) → (i < g) × (i < length s) × (b ≡ get_or s i 0) × (b ≡ 0) → x ≡ Long
  unfolding carried
  carried_zero b h =
      so ∙ ap (carried v scale i) (raw_at g i s h.0 h.1 ∙ raw_last _ _ _ (omega arith) ∙ value_same _ 0 _ 1 (omega arith) refl)

  pub carried_last : (b : ℕ) → (i < g) × (i < length s) × (b ≡ get_or s i 0) × (1 ≤ b) × (b < 128) → x ≡ Value (v + b * scale) (i + 1)
  carried_last b h =
      so ∙ ap (carried v scale i) (raw_at g i s h.0 h.1 ∙ raw_last _ _ _ (omega arith) ∙ value_same _ b _ 1 (omega arith) refl)
      ∙ carried_value v scale i b 1 (omega arith)
      ∙ value_same _ _ _ _ (omega arith) (omega arith)

  pub carried_again : (b : ℕ) → (i < g) × (i < length s) × (b ≡ get_or s i 0) × (128 ≤ b)
      → x ≡ carried (v + (b - 128) * scale) (scale * 128) (i + 1) (raw_of (g - (i + 1)) (drop (i + 1) s))
  carried_again b h =
      so ∙ ap (carried v scale i) (raw_at g i s h.0 h.1 ∙ raw_more _ _ _ (omega arith))
      ∙ carried_followed v scale i _ _
      ∙ ap (λ n. carried (v + (n - 128) * scale) (scale * 128) (i + 1) (raw_of (g - (i + 1)) (drop (i + 1) s))) (sym h.2)

  pub carried_long : g ≤ i → x ≡ Long
  unfolding carried raw_of
  carried_long h =
      let e : g - i ≡ 0 = omega arith in
      so ∙ ap (λ n. carried v scale i (raw_of n (drop i s))) e

-- a group b more does not wrap
abbrev pub Turn : ℕ → ℕ → ℕ → Type 0
Turn scale v b = (b * scale < 2 ^ 63) × (v + b * scale < scale * 128) × (scale * 128 ≤ 2 ^ 63)

-- that is so as long as there are at most nine groups
pub turn_fits : (g i scale v b : ℕ) → (i < g) × (g ≤ 9) × (scale ≡ 128 ^ i) × (v < scale) × (b < 128) → Turn scale v b
turn_fits g i scale v b h =
    let p : 128 ^ i ≤ 128 ^ 8 = pow-le-pow_right {n = 128} (omega arith) {i = i} {j = 8} (omega arith) in
    let q : b * scale ≤ 127 * scale = mul-le-mul (omega arith) (omega arith) in
    omega arith

pub scale_again : (i scale : ℕ) → scale ≡ 128 ^ i → scale * 128 ≡ 128 ^ (i + 1)
scale_again i scale e = rw (add-one, pow-suc, e)

-- ---- looking for the byte that breaks the rule

-- the code counts the bytes with a top bit set at the front of the first k
pub marked_prefix : (k : ℕ) (s : List ℕ) → prefix_len (λ b. leb 128 b) (take k s) ≡ marked k s
unfolding marked
marked_prefix zero s = refl
marked_prefix (suc k) [] = refl
marked_prefix (suc k) (b ∷ s) =
    by_cases (dec_lt b 128)
    (λ l. simp (lt-ltb b 128 l, lt-leb 128 b l))
    (λ l. simp (le-ltb b 128 (omega arith), le-leb 128 b (omega arith)) (omega (arith, marked_prefix k s)))

-- ---- writing group after group

-- what is still to be written leaves the same buffer after one group more
pub write_again : (all out : List ℕ) (i left b : ℕ) → all ≡ sets out i (code_of left) → (128 ≤ left) × (b ≡ left % 128 + 128)
    → all ≡ sets (set out i b) (i + 1) (code_of (left / 128))
write_again all out i left b so h = so ∙ ap (sets out i) (code_more left h.0) ∙ rw (add-one, h.1)

pub write_last : (all out : List ℕ) (i left b : ℕ) → all ≡ sets out i (code_of left) → (left < 128) × (b ≡ left) → all ≡ set out i b
write_last all out i left b so h = so ∙ ap (sets out i) (code_last left h.0) ∙ rw h.1

-- the whole of it, where there was room
pub write_all_lem : (v : ℕ) (out now : List ℕ) (at count : ℕ) → sets out at (code_of v) ≡ now → (count ≡ code_length_of v) × (at + count ≤ length out)
    → put_of v out at ≡ record { buffer = now; count = count }
write_all_lem v out now at count e h = put_room v out at (omega arith) ∙ rw (e, h.0)
