-- THE FIRST BYTES DECIDE: no valid file is longer than `longest`, so what follows one byte more is never looked at.
--
-- Theorem: first_bytes.
use Rattle.std.specs.Prelude.{ℕ, zero, suc, ◌+◌, ◌-◌, ◌*◌, ◌≤◌, ◌<◌, ◌≡◌, refl, List, [], ◌∷◌, length, drop, take, ltb}
use Rattle.std.proofs.Common.{ap, sym, ◌∙◌, inl, inr, arith, length-drop, length-take, length-append}
use Rattle.std.proofs.Math.Logic.{by_cases}
use Rattle.std.proofs.Math.Decide.{dec_lt}
use Rattle.std.proofs.Math.Seq.{take-nil}
use Rattle.sevens.specs.declared.Raw.{Raw}
use Rattle.sevens.specs.declared.Raw.TheVariants.{Cut, Long, Value}
use Rattle.sevens.specs.Sevens.{pick, followed, raw_of, cut_place_of, long_place_of, Bytes}
use Rattle.sevens.specs.Laws.{cut_take, long_take}
use Rattle.table.specs.Limits.{min_n, max_n, max_m, max_offset, max_delay}
use Rattle.table.specs.Form.{with_rule}
use Rattle.table.specs.declared.Table.{Table}
use Rattle.rulefile.specs.File.{groups, Num, rule_bytes, num_at, num_bad, and_then, rule_bad_of, rule_at_of, refused_read, rules_from_of, read_of}
use Rattle.rulefile.specs.Steps.{num_cut, num_long, num_outside, num_value, then_stop, then_next, rules_good, rules_bad, rules_tail, rules_end}
use Rattle.rulefile.specs.Length.{longest, small_code, middle_code, rule_length_lem}
use Rattle.rulefile.specs.Accepted.{num_back, rule_back}

-- ---- a file cut short

drop_take : (at k : ℕ) (s : List ℕ) → at ≤ k → drop at (take k s) ≡ take (k - at) (drop at s)
drop_take zero k s h = let e : k ≡ k - 0 = omega arith in ap (λ n. take n s) e
drop_take (suc at) zero s h = absurd (omega arith)
drop_take (suc at) (suc k) [] h = sym (take-nil (suc k - suc at))
drop_take (suc at) (suc k) (b ∷ s) h = let e : k - at ≡ suc k - suc at = omega arith in drop_take at k s (omega arith) ∙ ap (λ n. take n (drop at s)) e

-- the number at the front is the same where its groups are left
raw_take : (g k : ℕ) (s : List ℕ) → g ≤ k → raw_of g (take k s) ≡ raw_of g s
unfolding raw_of
raw_take zero k s h = refl
raw_take (suc g) zero s h = absurd (omega arith)
raw_take (suc g) (suc k) [] h = refl
raw_take (suc g) (suc k) (b ∷ s) h = ap (λ (x : Raw). pick (ltb b 128) (Value b 1) (followed b x)) (raw_take g k s (omega arith))

-- a number is the same where its three bytes are left
num_take : (s : List ℕ) (k at low high : ℕ) → at ≤ length s → at + groups ≤ k → num_at (take k s) at low high ≡ num_at s at low high
num_take s k at low high h f = at_raw (raw_of groups (drop at s)) refl
  where
    part : drop at (take k s) ≡ take (k - at) (drop at s)
    part = drop_take at k s (omega arith)

    same : raw_of groups (drop at (take k s)) ≡ raw_of groups (drop at s)
    same = ap (raw_of groups) part ∙ raw_take groups (k - at) (drop at s) (omega arith)

    at_raw : (x : Raw) → raw_of groups (drop at s) ≡ x → num_at (take k s) at low high ≡ num_at s at low high
    at_raw Cut e =
        num_cut (take k s) at low high (same ∙ e)
        ∙ ap (λ p. num_bad 1 (at + p)) (ap (cut_place_of groups) part ∙ cut_take groups (k - at) (drop at s) (omega arith) e)
        ∙ sym (num_cut s at low high e)
    at_raw Long e =
        num_long (take k s) at low high (same ∙ e)
        ∙ ap (λ p. num_bad 2 (at + p)) (ap (long_place_of groups) part ∙ long_take groups (k - at) (drop at s) (omega arith) e)
        ∙ sym (num_long s at low high e)
    at_raw (Value v n) e =
        by_cases (dec_lt v low)
        (λ l. num_outside (take k s) at low high v n (same ∙ e) (inl l) ∙ sym (num_outside s at low high v n e (inl l)))
        (λ l. by_cases (dec_lt high v)
        (λ u. num_outside (take k s) at low high v n (same ∙ e) (inr u) ∙ sym (num_outside s at low high v n e (inr u)))
        (λ u. num_value (take k s) at low high v n (omega (arith, length-take k s)) (same ∙ e) (omega arith) (omega arith)
        ∙ sym (num_value s at low high v n h e (omega arith) (omega arith))))

then_same : {A : Type 0} (bad f g : ℕ → ℕ → A) (x y : Num) → x ≡ y → (y.refusal ≤ 0 → f y.value y.next ≡ g y.value y.next) → and_then bad x f ≡ and_then bad y g
then_same bad f g x y e h =
    by_cases (dec_lt 0 y.refusal)
    (λ l. then_stop bad f x y (sym e) l ∙ sym (then_stop bad g y y refl l))
    (λ l. then_next bad f x y (sym e) (omega arith) ∙ h (omega arith) ∙ sym (then_next bad g y y refl (omega arith)))

module _ (s : List ℕ) (b : Bytes s) (k : ℕ) where
  -- a number read goes at most so many bytes on
  next_1 : (at low high : ℕ) → at ≤ length s → high < 128 → (num_at s at low high).refusal ≤ 0 → ((num_at s at low high).next ≤ at + 1) × ((num_at s at low high).next ≤ length s)
  next_1 at low high h u l = let n = num_back s at low high h l in (omega (arith, n.further b, small_code (num_at s at low high).value (omega (arith, n.high_ok))), n.fits)

  next_2 : (at low high : ℕ) → at ≤ length s → high < 16384 → (num_at s at low high).refusal ≤ 0 → ((num_at s at low high).next ≤ at + 2) × ((num_at s at low high).next ≤ length s)
  next_2 at low high h u l = let n = num_back s at low high h l in (omega (arith, n.further b, middle_code (num_at s at low high).value (omega (arith, n.high_ok))), n.fits)

  rule_take : (at n : ℕ) → at ≤ length s → n ≤ max_n → at + 8 ≤ k → rule_at_of (take k s) at n ≡ rule_at_of s at n
  unfolding rule_at_of
  rule_take at n h u f =
      then_same rule_bad_of _ _ _ _ (num_take s k at 0 (n - 1) h (omega arith)) (λ l1.
      let a = next_2 at 0 (n - 1) h (omega arith) l1 in
      then_same rule_bad_of _ _ _ _ (num_take s k _ 0 (n - 1) a.1 (omega arith)) (λ l2.
      let c = next_2 _ 0 (n - 1) a.1 (omega arith) l2 in
      then_same rule_bad_of _ _ _ _ (num_take s k _ 0 max_offset c.1 (omega arith)) (λ l3.
      let d = next_1 _ 0 max_offset c.1 (omega arith) l3 in
      then_same rule_bad_of _ _ _ _ (num_take s k _ 0 (max_delay + 1) d.1 (omega arith)) (λ l4. refl))))

  rule_next : (at n : ℕ) → at ≤ length s → 1 ≤ n → n ≤ max_n → (rule_at_of s at n).refusal ≤ 0 → ((rule_at_of s at n).next ≤ at + 8) × ((rule_at_of s at n).next ≤ length s)
  rule_next at n h p u l =
      let x = rule_back s at n h p l in (
        omega (
          arith,
          x.fits,
          rule_length_lem n (rule_at_of s at n).rule u x.within,
          ap length (x.split b),
          length-drop at s,
          length-drop (rule_at_of s at n).next s,
          length-append (rule_bytes (rule_at_of s at n).rule) (drop (rule_at_of s at n).next s),
        ),
        x.fits,
      )

  rules_take : (n left : ℕ) → 1 ≤ n → n ≤ max_n → (t : Table) (at r : ℕ) → at ≤ length s → at + 8 * left + 1 ≤ k → rules_from_of (take k s) n t at r left ≡ rules_from_of s n t at r left
  rules_take n zero p u t at r h f =
      by_cases (dec_lt at (length s))
      (λ l. rules_tail (take k s) n t at r 0 refl (omega (arith, length-take k s)) ∙ sym (rules_tail s n t at r 0 refl l))
      (λ l. rules_end (take k s) n t at r 0 refl (omega (arith, length-take k s)) ∙ sym (rules_end s n t at r 0 refl (omega arith)))
  rules_take n (suc left) p u t at r h f =
      let x = rule_at_of s at n in
      let e = sym (rule_take at n h u (omega arith)) in
      let m : suc left - 1 ≡ left = omega arith in
      by_cases (dec_lt 0 x.refusal)
      (λ l. rules_bad (take k s) n t at r (suc left) x e (omega arith) l ∙ sym (rules_bad s n t at r (suc left) x refl (omega arith) l))
      (λ l.
      let a = rule_next at n h p u (omega arith) in
      rules_good (take k s) n t at r (suc left) x e (omega arith) (omega arith)
      ∙ ap (rules_from_of (take k s) n (with_rule t r x.rule) x.next (r + 1)) m
      ∙ rules_take n left p u (with_rule t r x.rule) x.next (r + 1) a.1 (omega arith)
      ∙ ap (rules_from_of s n (with_rule t r x.rule) x.next (r + 1)) (sym m)
      ∙ sym (rules_good s n t at r (suc left) x refl (omega arith) (omega arith)))

-- THE FIRST BYTES DECIDE
pub first_bytes : (s : List ℕ) (k : ℕ) → Bytes s → longest + 1 ≤ k → read_of (take k s) ≡ read_of s
unfolding read_of
first_bytes s k b f =
    then_same refused_read _ _ _ _ (num_take s k 0 min_n max_n (omega arith) (omega arith)) (λ l1.
    let n = num_back s 0 min_n max_n (omega arith) l1 in
    let a = next_2 s b k 0 min_n max_n (omega arith) (omega arith) l1 in
    then_same refused_read _ _ _ _ (num_take s k _ 0 max_m a.1 (omega arith)) (λ l2.
    let m = num_back s _ 0 max_m a.1 l2 in
    let c = next_2 s b k _ 0 max_m a.1 (omega arith) l2 in
    rules_take s b k _ _ n.low_ok n.high_ok _ _ 0 c.1 (omega (arith, m.high_ok))))
