-- EACH REFUSAL IS GIVEN EXACTLY IN ITS CASE, THE EARLIEST FAULTY NUMBER FIRST. The numbers of a file are counted as the fields of a table are:
-- n is 0, m is 1, those of rule r are 2 + 4r to 5 + 4r.
--
--   lowest k, highest n k    the limits of number k, in the file of a table with n transitions
--   n_of s, m_of s             n and m as s has them
--   start_of s k              where number k of s starts
--   number_at s k             what is read there
--   Good s k                 the numbers before number k are read
--   FirstFault s k           number k is the first faulty one
--   end_of s                  where the last rule ends
--
--   fault_refused            the first faulty number's refusal and place are the answer
--   tail_refused             with no faulty number, bytes after the last rule are refused 4 at the first such byte
--   good_accepted            with neither, the file is accepted
--   read_cases               there are no other cases
--   refused_iff, tail_iff    refusals 1 to 3, and 4, exactly in their case
--   cut_iff, long_iff, range_iff   a number is refused 1, 2 or 3 exactly in its case
use Prim.Native.Nat.{ℕ, zero, suc, ◌+◌, ◌-◌, ◌*◌, ◌/◌, ◌%◌, ◌≤◌, ◌<◌}
use Rattle.std.specs.Prelude.{◌≡◌, refl, ◌⊎◌, ◌↔◌, List, length, drop}
use Rattle.std.proofs.Math.Path.{ap, subst⁻¹}
use Rattle.std.proofs.Common.{sym, ◌∙◌, subst, inl, inr, ⊎_elim, add-one, mod-lt}
use Rattle.std.proofs.Math.Logic.{by_cases}
use native.Mathlib.Omega.{arith}
use Rattle.std.proofs.Math.Decide.{dec_lt, ℕ_discrete}
use Rattle.sevens.specs.declared.Raw.TheVariants.{Value}
use Rattle.sevens.specs.Sevens.{raw_of}
use Rattle.sevens.specs.Laws.{CutCase, LongCase, raw_cut, cut_raw, raw_long, long_raw}
use Rattle.table.specs.Limits.{min_n, max_n, max_m, max_offset, max_delay}
use Rattle.table.specs.Form.{sized, with_rule}
use Rattle.table.specs.declared.Rule.{Rule}
use Rattle.table.specs.declared.Table.{Table}
use Rattle.rulefile.specs.declared.FileRead.{FileRead}
use Rattle.rulefile.specs.File.{groups, Num, delay_meant, num_at, rule_bad_of, rule_good, rule_at_of, refused_read, rules_from_of, read_of}
use Rattle.rulefile.specs.Steps.{num_cut, num_long, num_outside, num_cases, then_stop, then_next, rules_good, rules_bad, rules_tail, rules_end}

-- ---- the numbers of a file

-- n is at least min_n, every other number at least 0
abbrev pub lowest : ℕ → ℕ
lowest zero = min_n
lowest (suc k) = 0

-- the highest value of a rule's source, target, offset, delay code
abbrev pub highest_in : ℕ → ℕ → ℕ
highest_in n zero = n - 1
highest_in n (suc zero) = n - 1
highest_in n (suc (suc zero)) = max_offset
highest_in n (suc (suc (suc j))) = max_delay + 1

-- the highest value of number k
abbrev pub highest : ℕ → ℕ → ℕ
highest n zero = max_n
highest n (suc zero) = max_m
highest n (suc (suc k)) = highest_in n (k % 4)

-- n as the file s has it
abbrev pub n_of : List ℕ → ℕ
n_of s = (num_at s 0 min_n max_n).value

-- number k starts where the one before ends
unfoldable pub start_of : List ℕ → ℕ → ℕ
start_of s zero = 0
start_of s (suc k) = (num_at s (start_of s k) (lowest k) (highest (n_of s) k)).next

-- number k of the file s
abbrev pub number_at : List ℕ → ℕ → Num
number_at s k = num_at s (start_of s k) (lowest k) (highest (n_of s) k)

-- m as the file s has it
abbrev pub m_of : List ℕ → ℕ
m_of s = (number_at s 1).value

-- the numbers before number k are not refused
abbrev pub Good : List ℕ → ℕ → Type 0
Good s k = (j : ℕ) → j < k → (number_at s j).refusal ≡ 0

-- how many numbers s should have
abbrev pub numbers : List ℕ → ℕ
numbers s = 2 + 4 * m_of s

-- number k is refused, and none before it is
pub record FirstFault (s : List ℕ) (k : ℕ) : Type 0 where
  pub counted : k < numbers s
  pub before : Good s k
  pub fault : 0 < (number_at s k).refusal

-- where the last rule ends
abbrev pub end_of : List ℕ → ℕ
end_of s = start_of s (numbers s)

-- ---- the four numbers of a rule

-- k, j numbers on
abbrev on : ℕ → ℕ → ℕ
on zero k = k
on (suc j) k = suc (on j k)

on_is : (j k : ℕ) → on j k ≡ k + j
on_is zero k = omega arith
on_is (suc j) k = omega (arith, on_is j k)

module _ (s : List ℕ) (r : ℕ) where
  -- where rule r starts
  abbrev first : ℕ
  first = suc (suc (4 * r))

  source_is : number_at s first ≡ num_at s (start_of s first) 0 (n_of s - 1)
  source_is = let e : 4 * r % 4 ≡ 0 = omega arith in ap (λ k. num_at s (start_of s first) 0 (highest_in (n_of s) k)) e

  target_is : number_at s (on 1 first) ≡ num_at s (number_at s first).next 0 (n_of s - 1)
  unfolding start_of
  target_is = let e : suc (4 * r) % 4 ≡ 1 = omega arith in ap (λ k. num_at s (number_at s first).next 0 (highest_in (n_of s) k)) e

  offset_is : number_at s (on 2 first) ≡ num_at s (number_at s (on 1 first)).next 0 max_offset
  unfolding start_of
  offset_is = let e : suc (suc (4 * r)) % 4 ≡ 2 = omega arith in ap (λ k. num_at s (number_at s (on 1 first)).next 0 (highest_in (n_of s) k)) e

  code_is : number_at s (on 3 first) ≡ num_at s (number_at s (on 2 first)).next 0 (max_delay + 1)
  unfolding start_of
  code_is = let e : suc (suc (suc (4 * r))) % 4 ≡ 3 = omega arith in ap (λ k. num_at s (number_at s (on 2 first)).next 0 (highest_in (n_of s) k)) e

  -- the rule that its four numbers make
  rule_numbers : Rule
  rule_numbers = record { source = (number_at s first).value; target = (number_at s (on 1 first)).value; offset = (number_at s (on 2 first)).value; delay = delay_meant (number_at s (on 3 first)).value }

  rule_good_lem : Good s (on 4 first) → rule_at_of s (start_of s first) (n_of s) ≡ rule_good rule_numbers (start_of s (on 4 first))
  unfolding rule_at_of rule_numbers start_of
  rule_good_lem g =
      then_next _ _ _ _ source_is (omega (arith, g first (omega arith)))
      ∙ then_next _ _ _ _ target_is (omega (arith, g (on 1 first) (omega arith)))
      ∙ then_next _ _ _ _ offset_is (omega (arith, g (on 2 first) (omega arith)))
      ∙ then_next _ _ _ _ code_is (omega (arith, g (on 3 first) (omega arith)))

  rule_fault : (j : ℕ) → j < 4 → Good s (on j first) → 0 < (number_at s (on j first)).refusal
      → rule_at_of s (start_of s first) (n_of s) ≡ rule_bad_of (number_at s (on j first)).refusal (number_at s (on j first)).place
  unfolding rule_at_of
  rule_fault zero h g f = then_stop _ _ _ _ source_is f
  rule_fault (suc zero) h g f =
      then_next _ _ _ _ source_is (omega (arith, g first (omega arith)))
      ∙ then_stop _ _ _ _ target_is f
  rule_fault (suc (suc zero)) h g f =
      then_next _ _ _ _ source_is (omega (arith, g first (omega arith)))
      ∙ then_next _ _ _ _ target_is (omega (arith, g (on 1 first) (omega arith)))
      ∙ then_stop _ _ _ _ offset_is f
  rule_fault (suc (suc (suc zero))) h g f =
      then_next _ _ _ _ source_is (omega (arith, g first (omega arith)))
      ∙ then_next _ _ _ _ target_is (omega (arith, g (on 1 first) (omega arith)))
      ∙ then_next _ _ _ _ offset_is (omega (arith, g (on 2 first) (omega arith)))
      ∙ then_stop _ _ _ _ code_is f
  rule_fault (suc (suc (suc (suc j)))) h g f = absurd (omega arith)

-- ---- the reading as far as rule r

abbrev AsFar : List ℕ → ℕ → Type 0
AsFar s r = (t : Table) × (read_of s ≡ rules_from_of s (n_of s) t (start_of s (first s r)) r (m_of s - r))

far_start : (s : List ℕ) → Good s 2 → AsFar s 0
unfolding read_of start_of
far_start s g =
    let k : m_of s ≡ m_of s - 0 = omega arith in (
      sized (n_of s) (m_of s),
      then_next _ _ _ _ refl (omega (arith, g 0 (omega arith)))
          ∙ then_next _ _ _ (number_at s 1) refl (omega (arith, g 1 (omega arith)))
          ∙ ap (rules_from_of s (n_of s) (sized (n_of s) (m_of s)) (start_of s 2) 0) k,
    )

-- four numbers on
four_on : (s : List ℕ) (r : ℕ) → on 4 (first s r) ≡ first s (suc r)
four_on s r = omega arith

far_more : (s : List ℕ) (r : ℕ) → AsFar s r → r < m_of s → Good s (on 4 (first s r)) → AsFar s (suc r)
far_more s r (t, e) h g =
    let x = rule_numbers s r in
    let u = with_rule t r x in
    let k : m_of s - r - 1 ≡ m_of s - suc r = omega arith in (
      u,
      e
          ∙ rules_good s (n_of s) t (start_of s (first s r)) r (m_of s - r) _ (sym (rule_good_lem s r g)) (omega arith) (omega arith)
          ∙ ap (λ a. rules_from_of s (n_of s) u (start_of s a) (r + 1) (m_of s - r - 1)) (four_on s r)
          ∙ ap (λ i. rules_from_of s (n_of s) u (start_of s (first s (suc r))) i (m_of s - r - 1)) (add-one r)
          ∙ ap (rules_from_of s (n_of s) u (start_of s (first s (suc r))) (suc r)) k,
    )

as_far : (s : List ℕ) (r : ℕ) → r ≤ m_of s → Good s (first s r) → AsFar s r
as_far s zero h g = far_start s (λ j i. g j (omega arith))
as_far s (suc r) h g = far_more s r (as_far s r (omega arith) (λ j i. g j (omega arith))) (omega arith) (λ j i. g j (omega arith))

-- ---- the answer

fault_in_rule : (s : List ℕ) (r j : ℕ) → j < 4 → FirstFault s (on j (first s r)) → read_of s ≡ refused_read (number_at s (on j (first s r))).refusal (number_at s (on j (first s r))).place
fault_in_rule s r j h f =
    let o = on_is j (first s r) in
    let b = f.counted in
    let a = as_far s r (omega arith) (λ i l. f.before i (omega arith)) in
    a.1 ∙ rules_bad s (n_of s) a.0 (start_of s (first s r)) r (m_of s - r) _ (sym (rule_fault s r j h f.before f.fault)) (omega arith) f.fault

fault_n : (s : List ℕ) → FirstFault s 0 → read_of s ≡ refused_read (number_at s 0).refusal (number_at s 0).place
unfolding read_of start_of
fault_n s f = then_stop _ _ _ _ refl f.fault

fault_m : (s : List ℕ) → FirstFault s 1 → read_of s ≡ refused_read (number_at s 1).refusal (number_at s 1).place
unfolding read_of start_of
fault_m s f = then_next _ _ _ _ refl (omega (arith, f.before 0 (omega arith))) ∙ then_stop _ _ _ (number_at s 1) refl f.fault

-- THE EARLIEST FAULTY NUMBER DECIDES
pub fault_refused : (s : List ℕ) (k : ℕ) → FirstFault s k → read_of s ≡ refused_read (number_at s k).refusal (number_at s k).place
fault_refused s zero f = fault_n s f
fault_refused s (suc zero) f = fault_m s f
fault_refused s (suc (suc k)) f =
    subst P e (fault_in_rule s (k / 4) (k % 4) (mod-lt k (omega arith))) f
  where
    P : ℕ → Type 0
    P i = FirstFault s i → read_of s ≡ refused_read (number_at s i).refusal (number_at s i).place

    e : on (k % 4) (first s (k / 4)) ≡ suc (suc k)
    e = on_is (k % 4) (first s (k / 4)) ∙ omega arith

last_is : (s : List ℕ) → first s (m_of s) ≡ numbers s
last_is s = omega arith

-- BYTES AFTER THE LAST RULE COME LAST
pub tail_refused : (s : List ℕ) → Good s (numbers s) → end_of s < length s → read_of s ≡ refused_read 4 (end_of s)
tail_refused s g h =
    let e = ap (start_of s) (last_is s) in
    let a = as_far s (m_of s) (omega arith) (λ j i. g j (omega arith)) in
    a.1
    ∙ rules_tail s (n_of s) a.0 (start_of s (first s (m_of s))) (m_of s) (m_of s - m_of s) (omega arith) (omega arith)
    ∙ ap (refused_read 4) e

pub good_accepted : (s : List ℕ) → Good s (numbers s) → length s ≤ end_of s → (read_of s).refusal ≡ 0
good_accepted s g h =
    let e = ap (start_of s) (last_is s) in
    let a = as_far s (m_of s) (omega arith) (λ j i. g j (omega arith)) in
    ap (λ (x : FileRead). x.refusal)
    (a.1 ∙ rules_end s (n_of s) a.0 (start_of s (first s (m_of s))) (m_of s) (m_of s - m_of s) (omega arith) (omega arith))

good_to : (s : List ℕ) (k : ℕ) → k ≤ numbers s → Good s k ⊎ ((j : ℕ) × FirstFault s j)
good_to s zero h = inl (λ j i. absurd (omega arith))
good_to s (suc k) h =
    ⊎_elim
    (λ g. by_cases (dec_lt 0 (number_at s k).refusal)
    (λ f. inr (k, record { counted = omega arith; before = g; fault = f }))
    (λ f. inl (λ j i. by_cases (ℕ_discrete j k) (λ e. subst⁻¹ (λ n. (number_at s n).refusal ≡ 0) e (omega arith)) (λ d. g j (omega arith)))))
    (λ f. inr f)
    (good_to s k (omega arith))

-- THERE ARE NO OTHER CASES
pub read_cases : (s : List ℕ) → ((k : ℕ) × FirstFault s k) ⊎ (Good s (numbers s) × ((end_of s < length s) ⊎ (length s ≤ end_of s)))
read_cases s =
    ⊎_elim
    (λ g. inr (g, by_cases (dec_lt (end_of s) (length s)) (λ l. inl l) (λ l. inr (omega arith))))
    (λ f. inl f)
    (good_to s (numbers s) (omega arith))

-- ---- exactly

-- a number is refused 1 exactly when a byte of it is missing
pub cut_iff : (s : List ℕ) (at low high : ℕ) → ((num_at s at low high).refusal ≡ 1) ↔ CutCase groups (drop at s)
cut_iff s at low high = (
  num_cases s at low high (λ z. z.refusal ≡ 1 → CutCase groups (drop at s)) (λ e _. raw_cut groups (drop at s) e) (λ e g. absurd (omega arith)) (λ v k e o g. absurd (omega arith)) (λ v k e l h g. absurd (omega arith)),
  (λ c. ap (λ (z : Num). z.refusal) (num_cut s at low high (cut_raw groups (drop at s) c))),
)

-- 2 exactly when it is all there, and not written as it should be
pub long_iff : (s : List ℕ) (at low high : ℕ) → ((num_at s at low high).refusal ≡ 2) ↔ LongCase groups (drop at s)
long_iff s at low high = (
  num_cases s at low high (λ z. z.refusal ≡ 2 → LongCase groups (drop at s)) (λ e g. absurd (omega arith)) (λ e _. raw_long groups (drop at s) e) (λ v k e o g. absurd (omega arith)) (λ v k e l h g. absurd (omega arith)),
  (λ c. ap (λ (z : Num). z.refusal) (num_long s at low high (long_raw groups (drop at s) c))),
)

-- a value is well written at the front of s, and outside its limits
abbrev pub RangeCase : List ℕ → ℕ → ℕ → Type 0
RangeCase s low high = (v : ℕ) × (k : ℕ) × (raw_of groups s ≡ Value v k) × ((v < low) ⊎ (high < v))

-- 3 exactly when it is well written, and its value outside its limits
pub range_iff : (s : List ℕ) (at low high : ℕ) → ((num_at s at low high).refusal ≡ 3) ↔ RangeCase (drop at s) low high
range_iff s at low high = (
  num_cases s at low high (λ z. z.refusal ≡ 3 → RangeCase (drop at s) low high) (λ e g. absurd (omega arith)) (λ e g. absurd (omega arith)) (λ v k e o _. (v, k, e, o)) (λ v k e l h g. absurd (omega arith)),
  (λ c. ap (λ (z : Num). z.refusal) (num_outside s at low high c.0 c.1 c.2 c.3)),
)

num_most : (s : List ℕ) (at low high : ℕ) → (num_at s at low high).refusal ≤ 3
num_most s at low high = num_cases s at low high (λ z. z.refusal ≤ 3) (λ e. omega arith) (λ e. omega arith) (λ v k e o. omega arith) (λ v k e l h. omega arith)

-- REFUSALS 1 TO 3, EXACTLY: the refusal and place of the earliest faulty number
pub refused_iff : (s : List ℕ) (f p : ℕ) → 1 ≤ f → f ≤ 3
    → (read_of s ≡ refused_read f p) ↔ ((k : ℕ) × FirstFault s k × ((number_at s k).refusal ≡ f) × ((number_at s k).place ≡ p))
refused_iff s f p l h = (there, λ x. fault_refused s x.0 x.1 ∙ ap (λ n. refused_read n (number_at s x.0).place) x.2 ∙ ap (refused_read f) x.3)
  where
    there : read_of s ≡ refused_read f p → (k : ℕ) × FirstFault s k × ((number_at s k).refusal ≡ f) × ((number_at s k).place ≡ p)
    there e =
        ⊎_elim
        (λ x.
        let d = sym (fault_refused s x.0 x.1) ∙ e in
        (x.0, x.1, ap (λ (z : FileRead). z.refusal) d, ap (λ (z : FileRead). z.place) d))
        (λ x. ⊎_elim
        (λ t. absurd (omega (arith, ap (λ (z : FileRead). z.refusal) (sym (tail_refused s x.0 t) ∙ e))))
        (λ t. absurd (omega (arith, good_accepted s x.0 t, ap (λ (z : FileRead). z.refusal) e)))
        x.1)
        (read_cases s)

-- REFUSAL 4, EXACTLY: no faulty number, and bytes after the last rule
pub tail_iff : (s : List ℕ) → ((read_of s).refusal ≡ 4) ↔ (Good s (numbers s) × (end_of s < length s))
tail_iff s = (there, λ x. ap (λ (z : FileRead). z.refusal) (tail_refused s x.0 x.1))
  where
    there : (read_of s).refusal ≡ 4 → Good s (numbers s) × (end_of s < length s)
    there e =
        ⊎_elim
        (λ x. absurd (omega (arith, num_most s (start_of s x.0) (lowest x.0) (highest (n_of s) x.0), ap (λ (z : FileRead). z.refusal) (fault_refused s x.0 x.1))))
        (λ x. ⊎_elim (λ t. (x.0, t)) (λ t. absurd (omega (arith, good_accepted s x.0 t))) x.1)
        (read_cases s)
