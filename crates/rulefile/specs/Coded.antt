-- WHAT IS WRITTEN IS READ: the file of a table within its limits reads as that table with its unused places in their form.
--
--   copied t u r left     `left` rules of t from rule r on, stored in u
--   tidied t              t with its unused places in their form
--   Stored t u r left v   what is known of v after that
--
-- Theorems: file_read, tidied_same, tidied_unused.
use Rattle.std.specs.Prelude.{ℕ, zero, suc, ◌+◌, ◌-◌, ◌≤◌, ◌<◌, ◌≡◌, refl, List, ◌++◌, length, drop}
use Rattle.std.proofs.Common.{ap, sym, ◌∙◌, arith, add-one, length-drop, length-set, get_or-set_same, get_or-set_other}
use Rattle.std.proofs.Math.Path.{subst⁻¹}
use Rattle.std.proofs.Math.Logic.{by_cases}
use Rattle.std.proofs.Math.Decide.{ℕ_discrete}
use Rattle.std.proofs.lemmas.List.{length-replicate}
use Rattle.sevens.specs.Sevens.{code_of, code_length_of}
use Rattle.sevens.specs.Laws.{number_code}
use Rattle.table.specs.Limits.{min_n, max_n, max_m, max_offset, max_delay}
use Rattle.table.specs.Form.{unused_rule, sized, with_rule, rule_of, Unused, SameRules, all_unused}
use Rattle.table.specs.Fields.{RuleWithin, Within}
use Rattle.table.specs.declared.Delay.{Delay}
use Rattle.table.specs.declared.Delay.TheVariants.{Known, Unknown}
use Rattle.table.specs.declared.Rule.{Rule}
use Rattle.table.specs.declared.Table.{Table}
use Rattle.rulefile.specs.File.{groups, delay_code, delay_meant, rule_bytes, rules_bytes, file_of, num_at, num_good, rule_good, rule_at_of, accepted_read, rules_from_of, read_of}
use Rattle.rulefile.specs.Length.{any_code, code_within, four_length}
use Rattle.rulefile.specs.Steps.{then_next, drop_on, drop_fits, four_codes, rules_good, rules_end, file_codes}

-- ---- a number

pub num_code : (s rest : List ℕ) (at low high v : ℕ) → at ≤ length s → drop at s ≡ code_of v ++ rest → code_length_of v ≤ groups
    → low ≤ v → v ≤ high → num_at s at low high ≡ num_good v (at + code_length_of v)
unfolding num_at
num_code s rest at low high v h e c l u =
    let k : length s - length rest ≡ at + code_length_of v = omega (arith, drop_fits s (code_of v) rest at h e) in
    simp (e, number_code groups v rest low high c l u) (ap (num_good v) k)

-- ---- a rule

delay_there : (d : Delay) → delay_meant (delay_code d) ≡ d
delay_there Unknown = refl
delay_there (Known d) = ap delay_meant (add-one d)

-- the bytes of a rule within its limits are read as that rule
pub rule_code : (s rest : List ℕ) (at n : ℕ) (x : Rule) → at ≤ length s → n ≤ max_n → RuleWithin n x → drop at s ≡ rule_bytes x ++ rest
    → rule_at_of s at n ≡ rule_good x (at + length (rule_bytes x))
unfolding rule_at_of rule_bytes
rule_code s rest at n x h l w e0 =
    then_next _ _ _ _ (sym (num_code s _ at 0 (n - 1) u h e1 (any_code u (omega (arith, w.source))) (omega arith) (omega (arith, w.source)))) (omega arith)
    ∙ then_next _ _ _ _ (sym (num_code s _ (at + code_length_of u) 0 (n - 1) v f1 e2 (any_code v (omega (arith, w.target))) (omega arith) (omega (arith, w.target)))) (omega arith)
    ∙ then_next _ _ _ _ (sym (num_code s _ (at + code_length_of u + code_length_of v) 0 max_offset o f2 e3 (any_code o (omega (arith, w.offset))) (omega arith) w.offset)) (omega arith)
    ∙ then_next _ _ _ _ (sym (num_code s rest (at + code_length_of u + code_length_of v + code_length_of o) 0 (max_delay + 1) c f3 e4 (any_code c (omega (arith, code_within x.delay w.delay))) (omega arith) (code_within x.delay w.delay))) (omega arith)
    ∙ ap (λ (d : Delay). rule_good (record { source = u; target = v; offset = o; delay = d }) (at + code_length_of u + code_length_of v + code_length_of o + code_length_of c)) (delay_there x.delay)
    ∙ ap (rule_good x) (omega (arith, four_length u v o c))
  where
    u : ℕ
    u = x.source

    v : ℕ
    v = x.target

    o : ℕ
    o = x.offset

    c : ℕ
    c = delay_code x.delay

    e1 : drop at s ≡ code_of u ++ (code_of v ++ (code_of o ++ (code_of c ++ rest)))
    e1 = e0 ∙ sym (four_codes u v o c rest)

    f1 : at + code_length_of u ≤ length s
    f1 = omega (arith, drop_fits s (code_of u) _ at h e1)

    e2 : drop (at + code_length_of u) s ≡ code_of v ++ (code_of o ++ (code_of c ++ rest))
    e2 = drop_on s (code_of u) _ at e1

    f2 : at + code_length_of u + code_length_of v ≤ length s
    f2 = omega (arith, drop_fits s (code_of v) _ (at + code_length_of u) f1 e2)

    e3 : drop (at + code_length_of u + code_length_of v) s ≡ code_of o ++ (code_of c ++ rest)
    e3 = drop_on s (code_of v) _ (at + code_length_of u) e2

    f3 : at + code_length_of u + code_length_of v + code_length_of o ≤ length s
    f3 = omega (arith, drop_fits s (code_of o) _ (at + code_length_of u + code_length_of v) f2 e3)

    e4 : drop (at + code_length_of u + code_length_of v + code_length_of o) s ≡ code_of c ++ rest
    e4 = drop_on s (code_of o) _ (at + code_length_of u + code_length_of v) e3

-- ---- the file of a table

-- `left` rules of t from rule r on, stored in u
unfoldable pub copied : Table → Table → ℕ → ℕ → Table
copied t u r zero = u
copied t u r (suc left) = copied t (with_rule u r (rule_of t r)) (r + 1) left

rules_code : (s : List ℕ) (t : Table) (n : ℕ) → n ≤ max_n → (left : ℕ) (u : Table) (at r : ℕ) → at ≤ length s
    → ((k : ℕ) → r ≤ k → k < r + left → RuleWithin n (rule_of t k)) → drop at s ≡ rules_bytes t r left
    → rules_from_of s n u at r left ≡ accepted_read (copied t u r left)
unfolding copied rules_bytes
rules_code s t n l zero u at r h w e = rules_end s n u at r 0 refl (omega (arith, length-drop at s, ap length e))
rules_code s t n l (suc left) u at r h w e =
    let x = rule_of t r in
    let k : suc left - 1 ≡ left = omega arith in
    let c = rule_code s (rules_bytes t (r + 1) left) at n x h l (w r (omega arith) (omega arith)) e in
    rules_good s n u at r (suc left) (rule_good x (at + length (rule_bytes x))) (sym c) (omega arith) (omega arith)
    ∙ ap (rules_from_of s n (with_rule u r x) (at + length (rule_bytes x)) (r + 1)) k
    ∙ rules_code s t n l left (with_rule u r x) (at + length (rule_bytes x)) (r + 1)
    (omega (arith, drop_fits s (rule_bytes x) (rules_bytes t (r + 1) left) at h e)) (λ k i j. w k (omega arith) (omega arith))
    (drop_on s (rule_bytes x) (rules_bytes t (r + 1) left) at e)

-- the table that has t's n, m and m rules, and its other places unused
abbrev pub tidied : Table → Table
tidied t = copied t (sized t.n t.m) 0 t.m

pub file_read : (t : Table) → Within t → read_of (file_of t) ≡ accepted_read (tidied t)
unfolding read_of
file_read t w =
    then_next _ _ _ _ (sym (num_code s _ 0 min_n max_n t.n (omega arith) (file_codes t) (any_code t.n (omega (arith, w.n_high))) w.n_low w.n_high)) (omega arith)
    ∙ then_next _ _ _ _ (sym (num_code s _ (0 + code_length_of t.n) 0 max_m t.m f1 e1 (any_code t.m (omega (arith, w.m_high))) (omega arith) w.m_high)) (omega arith)
    ∙ rules_code s t t.n w.n_high t.m (sized t.n t.m) (0 + code_length_of t.n + code_length_of t.m) 0 f2 (λ k i j. w.rule k (omega arith)) e2
  where
    s : List ℕ
    s = file_of t

    f1 : 0 + code_length_of t.n ≤ length s
    f1 = omega (arith, drop_fits s (code_of t.n) _ 0 (omega arith) (file_codes t))

    e1 : drop (0 + code_length_of t.n) s ≡ code_of t.m ++ rules_bytes t 0 t.m
    e1 = drop_on s (code_of t.n) _ 0 (file_codes t)

    f2 : 0 + code_length_of t.n + code_length_of t.m ≤ length s
    f2 = omega (arith, drop_fits s (code_of t.m) _ (0 + code_length_of t.n) f1 e1)

    e2 : drop (0 + code_length_of t.n + code_length_of t.m) s ≡ rules_bytes t 0 t.m
    e2 = drop_on s (code_of t.m) _ (0 + code_length_of t.n) e1

-- what is known of u after `left` rules of t from rule r on were stored in it
record Stored (t u : Table) (r left : ℕ) (v : Table) : Type 0 where
  same_n : v.n ≡ u.n
  same_m : v.m ≡ u.m
  places : length v.rules ≡ length u.rules
  above : (k : ℕ) → r + left ≤ k → rule_of v k ≡ rule_of u k
  below : (k : ℕ) → k < r → rule_of v k ≡ rule_of u k
  here : (k : ℕ) → r ≤ k → k < r + left → rule_of v k ≡ rule_of t k

copied_stored : (t : Table) (left : ℕ) (u : Table) (r : ℕ) → r + left ≤ length u.rules → Stored t u r left (copied t u r left)
unfolding copied
copied_stored t zero u r h = record { same_n = refl; same_m = refl; places = refl; above = λ k _. refl; below = λ k _. refl; here = λ k i j. absurd (omega arith) }
copied_stored t (suc left) u r h = more (copied_stored t left (with_rule u r x) (r + 1) (simp length-set (omega arith)))
  where
    x : Rule
    x = rule_of t r

    more : Stored t (with_rule u r x) (r + 1) left (copied t (with_rule u r x) (r + 1) left) → Stored t u r (suc left) (copied t (with_rule u r x) (r + 1) left)
    more s = record {
      same_n = s.same_n;
      same_m = s.same_m;
      places = s.places ∙ length-set u.rules r x;
      above = λ k i. s.above k (omega arith) ∙ get_or-set_other u.rules r k x unused_rule (λ e. omega arith);
      below = λ k i. s.below k (omega arith) ∙ get_or-set_other u.rules r k x unused_rule (λ e. omega arith);
      here = λ k i j. by_cases (ℕ_discrete k r)
          (λ e. subst⁻¹ (λ k. rule_of (copied t (with_rule u r x) (r + 1) left) k ≡ rule_of t k) e
          (s.below r (omega arith) ∙ get_or-set_same u.rules r x unused_rule (omega arith)))
          (λ e. s.here k (omega arith) (omega arith));
    }

tidied_stored : (t : Table) → t.m ≤ max_m → Stored t (sized t.n t.m) 0 t.m (tidied t)
tidied_stored t h = copied_stored t t.m (sized t.n t.m) 0 (omega (arith, length-replicate max_m unused_rule))

pub tidied_same : (t : Table) → t.m ≤ max_m → SameRules t (tidied t)
tidied_same t h = let s = tidied_stored t h in record { same_n = s.same_n; same_m = s.same_m; same_rule = λ r i. s.here r (omega arith) (omega arith) }

pub tidied_unused : (t : Table) → t.m ≤ max_m → Unused (tidied t)
tidied_unused t h =
    let s = tidied_stored t h in
    record { places = s.places ∙ length-replicate max_m unused_rule; unused = λ r i. s.above r (omega (arith, s.same_m)) ∙ all_unused max_m r }
