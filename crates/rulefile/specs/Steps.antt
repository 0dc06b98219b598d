-- What the code's proofs cite: each step of reading and of writing, over plain variables. Assumes nothing.
--
--   num_inside, num_bad_lem, num_good_lem                    the number at a place, from what the number reader says of the part from there on
--   num_cut, num_long, num_outside, num_value      the number at a place, by what stands there; num_cases: there are no other cases
--   num_split, num_range                           a number is refused or read; one read is within its limits
--   num_in                                         the same of the code's own result
--   then_stop, then_next, then_split               a stage of a reading stops, goes on, does one of the two
--   then_err, then_ok                              the first two, from the code's own result
--   rules_bad, rules_good, rules_tail, rules_end   a turn of the reading loop, and its end
--   four_codes, drop_on, drop_fits                 bytes one after the other
--   put_fits, put_rule_lem, put_head, put_turn         what writing a number, a rule, the head and one more rule leave
--   count_head, count_turn                         the same of counting
--   judged_within, wrote                           what writing promises, where the table is within its limits
use Prim.Native.Nat.{ℕ, zero, suc, ◌+◌, ◌-◌, ◌≤◌, ◌<◌}
use Rattle.std.specs.Prelude.{◌≡◌, ◌⊎◌, drop, take}
use Rattle.std.proofs.Math.Path.{refl, ap, sym, subst⁻¹}
use Rattle.std.proofs.Common.{◌∙◌, subst, inl, inr, take_all, drop-drop, add-one}
use Rattle.std.proofs.Math.Logic.{by_cases, ⊎_elim}
use mathlib.Core.List.{List, [], ◌++◌, append_assoc, append-nil}
use Rattle.std.proofs.Math.ListN.{length, length-drop, length-append}
use Rattle.std.proofs.lemmas.List.Edits.{sets}
use Rattle.std.proofs.Math.Seq.{length-sets, drop-append_seam}
use borrow.Author.Tests.{lt-ltb, le-ltb}
use native.Mathlib.Omega.{arith}
use Rattle.std.proofs.Math.Decide.{dec_lt}
use Rattle.sevens.specs.Sevens.{raw_of, cut_place_of, long_place_of, Answer, number_of, code_of, code_length_of, Put, put_of}
use Rattle.sevens.specs.declared.Raw.TheVariants.{Cut, Long, Value}
use Rattle.sevens.specs.Laws.{raw_size, number_cut, number_long, number_low, number_high, number_accepted, number_split, number_place, number_rest, number_within, put_room, put_none, put_left, sets_append, sets_front}
use Rattle.table.specs.Form.{empty_table, sized, with_rule, rule_of}
use Rattle.table.specs.Fields.{Within, Judged, within_not_bad}
use Rattle.refusals.specs.declared.Why.{Why}
use Rattle.refusals.specs.Number.{Told, number_of as number_of_why, number_positive}
use Rattle.table.specs.declared.Delay.{Delay}
use Rattle.table.specs.declared.Rule.{Rule}
use Rattle.table.specs.declared.Table.{Table}
use Rattle.rulefile.specs.File.{groups, Num, RuleRead, num_at, num_from, num_bad, num_good, and_then, delay_code, rule_bytes, rules_bytes, file_of, rule_good, rule_at_of, refused_read, accepted_read, rules_from_of, Written, refused_write, written_as, Writes}

-- ---- a number at a place

-- the part from `at` on, as the code makes it
part_rest : (s : List ℕ) (at : ℕ) → take (length s - at) (drop at s) ≡ drop at s
part_rest s at = take_all (length s - at) (drop at s) (omega (arith, length-drop at s))

module _ (s : List ℕ) (at low high v f p : ℕ) (r : List ℕ)
    (e : number_of groups (take (length s - at) (drop at s)) low high ≡ record { value = v; refusal = f; place = p; rest = r }) where
  whole : number_of groups (drop at s) low high ≡ record { value = v; refusal = f; place = p; rest = r }
  whole = rw (part_rest s at) at e

  pub num_inside : (p ≤ length s - at) × (length r ≤ length s - at)
  num_inside = (
    omega (arith, length-drop at s, ap (λ (x : Answer). x.place) whole, number_place groups (drop at s) low high),
    omega (arith, length-drop at s, ap (λ (x : Answer). length x.rest) whole, number_rest groups (drop at s) low high),
  )

  pub num_bad_lem : 0 < f → num_bad f (at + p) ≡ num_at s at low high
  unfolding num_at
  num_bad_lem h = sym (simp (whole, lt-ltb 0 f h))

  pub num_good_lem : f ≤ 0 → num_good v (length s - length r) ≡ num_at s at low high
  unfolding num_at
  num_good_lem h = sym (simp (whole, le-ltb 0 f h))

-- ---- the number at a place, by what stands there

module _ (s : List ℕ) (at low high : ℕ) where
  pub num_cut : raw_of groups (drop at s) ≡ Cut → num_at s at low high ≡ num_bad 1 (at + cut_place_of groups (drop at s))
  unfolding num_at
  num_cut e = simp (number_cut groups (drop at s) low high e)

  pub num_long : raw_of groups (drop at s) ≡ Long → num_at s at low high ≡ num_bad 2 (at + long_place_of groups (drop at s))
  unfolding num_at
  num_long e = simp (number_long groups (drop at s) low high e)

  pub num_outside : (v k : ℕ) → raw_of groups (drop at s) ≡ Value v k → (v < low) ⊎ (high < v) → num_at s at low high ≡ num_bad 3 (at + 0)
  unfolding num_at
  num_outside v k e h =
      ⊎_elim
      (λ l. simp (number_low groups (drop at s) low high v k e l))
      (λ l. simp (number_high groups (drop at s) low high v k e l))
      h

  pub num_value : (v k : ℕ) → at ≤ length s → raw_of groups (drop at s) ≡ Value v k → low ≤ v → v ≤ high → num_at s at low high ≡ num_good v (at + k)
  unfolding num_at
  num_value v k h e l u =
      let n : length s - length (drop k (drop at s)) ≡ at + k = omega (arith, length-drop k (drop at s), length-drop at s, raw_size groups (drop at s) v k e) in
      simp (number_accepted groups (drop at s) low high v k e l u) (ap (num_good v) n)

  -- what holds in each of the four cases holds of the number
  pub num_cases : (P : Num → Type 0)
      → (raw_of groups (drop at s) ≡ Cut → P (num_bad 1 (at + cut_place_of groups (drop at s))))
      → (raw_of groups (drop at s) ≡ Long → P (num_bad 2 (at + long_place_of groups (drop at s))))
      → ((v k : ℕ) → raw_of groups (drop at s) ≡ Value v k → (v < low) ⊎ (high < v) → P (num_bad 3 (at + 0)))
      → ((v k : ℕ) → raw_of groups (drop at s) ≡ Value v k → low ≤ v → v ≤ high → P (num_good v (length s - length (drop k (drop at s)))))
      → P (num_at s at low high)
  unfolding num_at
  num_cases P cut long outside value = number_split groups (drop at s) low high (λ a. P (num_from s at a)) cut long outside value

-- ---- stages of a reading

module _ {A : Type 0} (bad f : ℕ → ℕ → A) (x y : Num) (e : y ≡ x) where
  pub then_stop : 0 < y.refusal → and_then bad x f ≡ bad y.refusal y.place
  unfolding and_then
  then_stop h = simp (← e, lt-ltb 0 y.refusal h)

  pub then_next : y.refusal ≤ 0 → and_then bad x f ≡ f y.value y.next
  unfolding and_then
  then_next h = simp (← e, le-ltb 0 y.refusal h)

module _ {A : Type 0} (bad f : ℕ → ℕ → A) (x : Num) where
  pub then_err : (w : Why) (place : ℕ) → num_bad (number_of_why w) place ≡ x → and_then bad x f ≡ bad (number_of_why w) place
  then_err w place e = then_stop bad f x (num_bad (number_of_why w) place) e (number_positive w)

  pub then_ok : (v next : ℕ) → num_good v next ≡ x → and_then bad x f ≡ f v next
  then_ok v next e = then_next bad f x (num_good v next) e (omega arith)

-- what holds of a stop and of going on holds of a stage
pub then_split : {A : Type 0} (P : A → Type 0) (bad f : ℕ → ℕ → A) (x : Num)
    → (0 < x.refusal → P (bad x.refusal x.place)) → (x.refusal ≤ 0 → P (f x.value x.next)) → P (and_then bad x f)
unfolding and_then
then_split P bad f x stop go =
    by_cases (dec_lt 0 x.refusal)
    (λ h. simp (lt-ltb 0 x.refusal h) (stop h))
    (λ h. simp (le-ltb 0 x.refusal (omega arith)) (go (omega arith)))

-- ---- what is known of a number read

-- what holds of a refusal and of a number read holds of the number at a place
pub num_split : (P : Num → Type 0) (s : List ℕ) (at low high : ℕ)
    → ((x : Answer) → x ≡ number_of groups (drop at s) low high → 0 < x.refusal → P (num_bad x.refusal (at + x.place)))
    → ((x : Answer) → x ≡ number_of groups (drop at s) low high → x.refusal ≡ 0 → P (num_good x.value (length s - length x.rest)))
    → P (num_at s at low high)
unfolding num_at
num_split P s at low high bad good =
    by_cases (dec_lt 0 x.refusal)
    (λ h. simp (lt-ltb 0 x.refusal h) (bad x refl h))
    (λ h. simp (le-ltb 0 x.refusal (omega arith)) (good x refl (omega arith)))
  where
    x : Answer
    x = number_of groups (drop at s) low high

-- a number read is within its limits
pub num_range : (s : List ℕ) (at low high : ℕ) (y : Num) → y ≡ num_at s at low high → y.refusal ≤ 0 → (low ≤ y.value) × (y.value ≤ high)
num_range s at low high y e =
    subst⁻¹ (λ (z : Num). z.refusal ≤ 0 → (low ≤ z.value) × (z.value ≤ high)) e
    (num_split (λ z. z.refusal ≤ 0 → (low ≤ z.value) × (z.value ≤ high)) s at low high
    (λ x f h g. absurd (omega arith))
    (λ x f h g. subst⁻¹ (λ (z : Answer). z.refusal ≡ 0 → (low ≤ z.value) × (z.value ≤ high)) f (number_within groups (drop at s) low high) h))

pub num_in : (s : List ℕ) (at low high v next : ℕ) → num_good v next ≡ num_at s at low high → (low ≤ v) × (v ≤ high)
num_in s at low high v next e = num_range s at low high (num_good v next) e (omega arith)

-- ---- a rule and the rules

pub rule_same : (u v e a b c f : ℕ) (d d' : Delay) → a ≡ u → b ≡ v → c ≡ e → d' ≡ d
    → ◌≡◌ {A = RuleRead} (rule_good (record { source = u; target = v; offset = e; delay = d }) f) (rule_good (record { source = a; target = b; offset = c; delay = d' }) f)
rule_same u v e a b c f d d' h g k l = cc

module _ (s : List ℕ) (n : ℕ) (t : Table) (at r : ℕ) where
  pub rules_bad : (left : ℕ) (x : RuleRead) → x ≡ rule_at_of s at n → 1 ≤ left → 0 < x.refusal → rules_from_of s n t at r left ≡ refused_read x.refusal x.place
  unfolding rules_from_of
  rules_bad zero x e h g = absurd (omega arith)
  rules_bad (suc left) x e h g = simp (← e, lt-ltb 0 x.refusal g)

  pub rules_good : (left : ℕ) (x : RuleRead) → x ≡ rule_at_of s at n → 1 ≤ left → x.refusal ≤ 0
      → rules_from_of s n t at r left ≡ rules_from_of s n (with_rule t r x.rule) x.next (r + 1) (left - 1)
  unfolding rules_from_of
  rules_good zero x e h g = absurd (omega arith)
  rules_good (suc left) x e h g =
      let k : left ≡ suc left - 1 = omega arith in
      simp (← e, le-ltb 0 x.refusal g) (ap (rules_from_of s n (with_rule t r x.rule) x.next (r + 1)) k)

  pub rules_tail : (left : ℕ) → left ≡ 0 → at < length s → rules_from_of s n t at r left ≡ refused_read 4 at
  unfolding rules_from_of
  rules_tail zero e h = simp (lt-ltb at (length s) h)
  rules_tail (suc left) e h = absurd (omega arith)

  pub rules_end : (left : ℕ) → left ≡ 0 → length s ≤ at → rules_from_of s n t at r left ≡ accepted_read t
  unfolding rules_from_of
  rules_end zero e h = simp (le-ltb at (length s) h)
  rules_end (suc left) e h = absurd (omega arith)

pub sized_is : (n m w : ℕ) (t : Table) → w ≡ n → t ≡ empty_table → ◌≡◌ {A = Table} (record { n = w; m = m; rules = t.rules }) (sized n m)
sized_is n m w t e f = cc

-- ---- bytes one after the other

-- four codes one after the other
pub four_codes : (u v e c : ℕ) (rest : List ℕ) → code_of u ++ (code_of v ++ (code_of e ++ (code_of c ++ rest))) ≡ (code_of u ++ code_of v ++ code_of e ++ code_of c) ++ rest
four_codes u v e c rest = simp append_assoc

-- what follows the bytes xs at a place
pub drop_on : (s xs ys : List ℕ) (at : ℕ) → drop at s ≡ xs ++ ys → drop (at + length xs) s ≡ ys
drop_on s xs ys at e = sym (drop-drop (length xs) at s) ∙ ap (drop (length xs)) e ∙ drop-append_seam xs ys

pub drop_fits : (s xs ys : List ℕ) (at : ℕ) → at ≤ length s → drop at s ≡ xs ++ ys → at + length xs + length ys ≡ length s
drop_fits s xs ys at h e = omega (arith, length-drop at s, length-append xs ys, ap length e)

-- ---- writing

-- what a call of put leaves, whether or not there is room
pub put_fits : (v : ℕ) (out : List ℕ) (at : ℕ) (next : List ℕ) (count : ℕ) → put_of v out at ≡ record { buffer = next; count = count } → at ≤ length out
    → (at + count ≤ length out) × (length next ≡ length out)
put_fits v out at next count e h =
    subst (λ (x : Put). (at + x.count ≤ length out) × (length x.buffer ≡ length out)) e
    (by_cases (dec_lt (length out) (at + code_length_of v))
    (λ l. subst⁻¹ (λ (x : Put). (at + x.count ≤ length out) × (length x.buffer ≡ length out)) (put_none v out at l) (omega arith, refl))
    (λ l. subst⁻¹ (λ (x : Put). (at + x.count ≤ length out) × (length x.buffer ≡ length out)) (put_room v out at (omega arith)) (omega arith, length-sets out at (code_of v))))

-- four numbers one after the other are a rule
module _ (x : Rule) (out o1 o2 o3 o4 : List ℕ) (at u k1 v k2 o k3 c k4 : ℕ)
    (room : at + length (rule_bytes x) ≤ length out)
    (is : (u ≡ x.source) × (v ≡ x.target) × (o ≡ x.offset) × (c ≡ delay_code x.delay))
    (p1 : put_of u out at ≡ record { buffer = o1; count = k1 })
    (p2 : put_of v o1 (at + k1) ≡ record { buffer = o2; count = k2 })
    (p3 : put_of o o2 (at + k1 + k2) ≡ record { buffer = o3; count = k3 })
    (p4 : put_of c o3 (at + k1 + k2 + k3) ≡ record { buffer = o4; count = k4 }) where
  codes : List ℕ
  codes = code_of u ++ (code_of v ++ (code_of o ++ (code_of c ++ [])))

  same_codes : rule_bytes x ≡ codes
  unfolding rule_bytes codes
  same_codes = sym (simp (append_assoc, append-nil, is.0, is.1, is.2, is.3))

  pub put_rule_lem : (o4 ≡ sets out at (rule_bytes x)) × (at + k1 + k2 + k3 + k4 ≡ at + length (rule_bytes x))
  unfolding codes
  put_rule_lem =
      let l = ap length same_codes in
      let n : length codes ≡ code_length_of u + (code_length_of v + (code_length_of o + (code_length_of c + 0))) = simp length-append in
      let a = put_left (sets out at codes) u out at _ o1 k1 refl (omega arith) p1 in
      let b = put_left _ v o1 (at + k1) _ o2 k2 a.0 a.1 p2 in
      let d = put_left _ o o2 (at + k1 + k2) _ o3 k3 b.0 b.1 p3 in
      let e = put_left _ c o3 (at + k1 + k2 + k3) [] o4 k4 d.0 d.1 p4 in
      (sym e.0 ∙ ap (sets out at) (sym same_codes), omega arith)

-- n and m, and then the rules
pub file_codes : (t : Table) → file_of t ≡ code_of t.n ++ (code_of t.m ++ rules_bytes t 0 t.m)
unfolding file_of
file_codes t = append_assoc (code_of t.n) (code_of t.m) (rules_bytes t 0 t.m)

pub put_head : (t : Table) (out o1 o2 : List ℕ) (n m a k : ℕ) → n ≡ t.n → m ≡ t.m → length (file_of t) ≤ length out
    → put_of n out 0 ≡ record { buffer = o1; count = a } → put_of m o1 a ≡ record { buffer = o2; count = k }
    → (sets out 0 (file_of t) ≡ sets o2 (a + k) (rules_bytes t 0 t.m)) × (a + k + length (rules_bytes t 0 t.m) ≤ length o2)
put_head t out o1 o2 n m a k en em room p1 p2 =
    let f = file_codes t in
    let l = ap length f in
    let z : 0 + a ≡ a = omega arith in
    let b = put_left (sets out 0 (file_of t)) t.n out 0 (code_of t.m ++ rules_bytes t 0 t.m) o1 a (ap (sets out 0) f) (omega arith) (ap (λ v. put_of v out 0) (sym en) ∙ p1) in
    let c = put_left (sets out 0 (file_of t)) t.m o1 a (rules_bytes t 0 t.m) o2 k (b.0 ∙ ap (λ i. sets o1 i (code_of t.m ++ rules_bytes t 0 t.m)) z) (omega arith) (ap (λ v. put_of v o1 a) (sym em) ∙ p2) in
    (c.0, c.1)

-- the next rule, and the rest after it
pub rules_first : (t : Table) (r left rest : ℕ) → left ≡ rest + 1 → rules_bytes t r left ≡ rule_bytes (rule_of t r) ++ rules_bytes t (r + 1) rest
unfolding rules_bytes
rules_first t r left rest e = ap (rules_bytes t r) (e ∙ add-one rest)

pub rules_over : (t : Table) (r left : ℕ) → left ≡ 0 → rules_bytes t r left ≡ []
unfolding rules_bytes
rules_over t r zero h = refl
rules_over t r (suc left) h = absurd (omega arith)

pub count_head : (t : Table) (n m : ℕ) → n ≡ code_length_of t.n → m ≡ code_length_of t.m → n + m + length (rules_bytes t 0 (t.m - 0)) ≡ length (file_of t)
count_head t n m e f =
    let k : t.m - 0 ≡ t.m = omega arith in
    omega (
      arith,
      ap length (file_codes t),
      length-append (code_of t.n) (code_of t.m ++ rules_bytes t 0 t.m),
      length-append (code_of t.m) (rules_bytes t 0 t.m),
      ap (λ i. length (rules_bytes t 0 i)) k,
    )

-- a turn of the loop that counts
pub count_turn : (t : Table) (r left rest more count whole : ℕ) → left ≡ rest + 1 → more ≡ length (rule_bytes (rule_of t r)) → count + length (rules_bytes t r left) ≡ whole
    → count + more + length (rules_bytes t (r + 1) rest) ≡ whole
count_turn t r left rest more count whole h e f =
    omega (arith, ap length (rules_first t r left rest h), length-append (rule_bytes (rule_of t r)) (rules_bytes t (r + 1) rest))

-- room for the rules to come is room for the next
pub put_next : (t : Table) (r left rest at room : ℕ) → left ≡ rest + 1 → at + length (rules_bytes t r left) ≤ room → at + length (rule_bytes (rule_of t r)) ≤ room
put_next t r left rest at room h f =
    omega (arith, ap length (rules_first t r left rest h), length-append (rule_bytes (rule_of t r)) (rules_bytes t (r + 1) rest))

-- a turn of the loop that writes
pub put_turn : (all : List ℕ) (t : Table) (r left rest : ℕ) (out next : List ℕ) (at to : ℕ) → left ≡ rest + 1 → all ≡ sets out at (rules_bytes t r left)
    → at + length (rules_bytes t r left) ≤ length out → next ≡ sets out at (rule_bytes (rule_of t r)) → to ≡ at + length (rule_bytes (rule_of t r))
    → (all ≡ sets next to (rules_bytes t (r + 1) rest)) × (to + length (rules_bytes t (r + 1) rest) ≤ length next) × (length next ≡ length out)
put_turn all t r left rest out next at to h so room e f =
    let x = rule_bytes (rule_of t r) in
    let ys = rules_bytes t (r + 1) rest in
    let g = rules_first t r left rest h in
    let n : length next ≡ length out = ap length e ∙ length-sets out at x in
    (so ∙ ap (sets out at) g ∙ sets_append out at x ys ∙ rw (e, f), omega (arith, ap length g, length-append x ys), n)

-- ---- what writing promises

pub judged_within : (t : Table) (x : Told) → Judged t x → x.refusal ≤ 0 → Within t
judged_within t x (inl a) h = a.0
judged_within t x (inr b) h = absurd (omega arith)

-- what was answered, and what is left in the buffer, by the room that there was
pub wrote : (t : Table) (out after : List ℕ) (count : ℕ) (x : Written) → Within t → count ≡ length (file_of t)
    → (length out < count → x ≡ refused_write 8 count) × (count ≤ length out → x ≡ written_as count)
    → ((count ≤ length out) × (after ≡ sets out 0 (file_of t))) ⊎ ((length out < count) × (after ≡ out))
    → Writes t out x after
wrote t out after count x w e answer left = record {
  range = λ k g. absurd (within_not_bad t k w g);
  room = λ _ g. (answer.0 (omega arith) ∙ ap (refused_write 8) e, ⊎_elim (λ y. absurd (omega arith)) (λ y. y.1) left);
  written = λ _ g. (answer.1 (omega arith) ∙ ap written_as e, ⊎_elim (λ y. y.1 ∙ sets_front out (file_of t) g) (λ y. absurd (omega arith)) left);
}
