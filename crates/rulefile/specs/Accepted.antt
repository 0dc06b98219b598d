-- WHAT IS ACCEPTED IS THE FILE OF ITS TABLE. A slice's elements are below 256, which `Bytes s` says of a list.
--
--   NumRead s at low high x          x was read at `at` of s: its code stands there
--   RuleHere s at n x                x was read at `at` of s: the rule's bytes stand there, and it is within its limits
--   RulesHere s n t at r left u      what an accepted reading of `left` rules makes of the table t
--   Accepted s t                     what is known of an accepted file and its table, whatever the elements of s are
--   IsFile s t                       s is the file of t, which is within its limits and has its unused places in their form
--
-- Theorems: accepted_read_lem, accepted_is_file.
use Prim.{tt}
use Rattle.std.specs.Prelude.{ℕ, zero, suc, ◌+◌, ◌-◌, ◌≤◌, ◌<◌, ◌≡◌, refl, List, ◌++◌, length, drop}
use Rattle.std.proofs.Common.{ap, sym, ◌∙◌, subst, arith, add-one, length-set, drop_of_length-le, get_or-set_same, get_or-set_other}
use Rattle.std.proofs.Math.Path.{subst⁻¹}
use Rattle.std.proofs.Math.Logic.{by_cases}
use Rattle.std.proofs.Math.Decide.{dec_lt, ℕ_discrete}
use Rattle.std.proofs.lemmas.List.{length-replicate}
use Rattle.sevens.specs.Sevens.{Answer, code_of, code_length_of, Bytes}
use Rattle.sevens.specs.Laws.{number_within, number_back, bytes_drop}
use Rattle.table.specs.Limits.{min_n, max_n, max_m, max_offset, max_delay}
use Rattle.table.specs.Form.{unused_rule, sized, with_rule, rule_of, Unused, all_unused}
use Rattle.table.specs.Fields.{DelayOk, RuleWithin, Within}
use Rattle.table.specs.declared.Rule.{Rule}
use Rattle.table.specs.declared.Table.{Table}
use Rattle.rulefile.specs.declared.FileRead.{FileRead}
use Rattle.rulefile.specs.File.{groups, Num, RuleRead, delay_code, delay_meant, rule_bytes, rules_bytes, file_of, num_at, num_good, rule_bad_of, rule_good, rule_at_of, refused_read, rules_from_of, read_of}
use Rattle.rulefile.specs.Steps.{num_split, then_split, drop_on, drop_fits, four_codes, rules_good, rules_bad, rules_tail, rules_end, file_codes}

-- ---- a number

-- x was read at `at`: its code stands there, and x goes on after it
pub record NumRead (s : List ℕ) (at low high : ℕ) (x : Num) : Type 0 where
  pub split : Bytes s → drop at s ≡ code_of x.value ++ drop x.next s
  pub further : Bytes s → x.next ≡ at + code_length_of x.value
  pub fits : x.next ≤ length s
  pub low_ok : low ≤ x.value
  pub high_ok : x.value ≤ high

pub num_back : (s : List ℕ) (at low high : ℕ) → at ≤ length s → (num_at s at low high).refusal ≤ 0 → NumRead s at low high (num_at s at low high)
num_back s at low high h =
    num_split (λ z. z.refusal ≤ 0 → NumRead s at low high z) s at low high
    (λ x e f g. absurd (omega arith))
    (λ x e f g. made x
    (λ b. subst⁻¹ (λ (z : Answer). z.refusal ≡ 0 → drop at s ≡ code_of z.value ++ z.rest) e (number_back groups (drop at s) low high (bytes_drop s at b)) f)
    (subst⁻¹ (λ (z : Answer). z.refusal ≡ 0 → (low ≤ z.value) × (z.value ≤ high)) e (number_within groups (drop at s) low high) f))
  where
    made : (x : Answer) → (Bytes s → drop at s ≡ code_of x.value ++ x.rest) → (low ≤ x.value) × (x.value ≤ high)
        → NumRead s at low high (num_good x.value (length s - length x.rest))
    made x e r = record {
      split = λ b. e b ∙ ap (λ (ys : List ℕ). code_of x.value ++ ys) (sym (drop_on s (code_of x.value) x.rest at (e b)) ∙ ap (λ n. drop n s) (sym (on b)));
      further = on;
      fits = omega arith;
      low_ok = r.0;
      high_ok = r.1;
    }
      where
        on : Bytes s → length s - length x.rest ≡ at + code_length_of x.value
        on b = omega (arith, drop_fits s (code_of x.value) x.rest at h (e b))

-- ---- a rule

delay_back : (c : ℕ) → delay_code (delay_meant c) ≡ c
delay_back zero = refl
delay_back (suc d) = add-one d

delay_within : (c : ℕ) → c ≤ max_delay + 1 → DelayOk (delay_meant c)
delay_within zero h = tt
delay_within (suc d) h = omega arith

-- x was read at `at`: its bytes stand there, and x goes on after them
pub record RuleHere (s : List ℕ) (at n : ℕ) (x : RuleRead) : Type 0 where
  pub split : Bytes s → drop at s ≡ rule_bytes x.rule ++ drop x.next s
  pub fits : x.next ≤ length s
  pub within : RuleWithin n x.rule

-- four numbers read one after the other are a rule
rule_made : (s : List ℕ) (at n : ℕ) (u v e c : Num) → 1 ≤ n → NumRead s at 0 (n - 1) u → NumRead s u.next 0 (n - 1) v
    → NumRead s v.next 0 max_offset e → NumRead s e.next 0 (max_delay + 1) c
    → RuleHere s at n (rule_good (record { source = u.value; target = v.value; offset = e.value; delay = delay_meant c.value }) c.next)
unfolding rule_bytes
rule_made s at n u v e c p a b d f = record {
  split = λ bytes.
      a.split bytes ∙ ap (λ (r : List ℕ). code_of u.value ++ r)
      (b.split bytes ∙ ap (λ (r : List ℕ). code_of v.value ++ r)
      (d.split bytes ∙ ap (λ (r : List ℕ). code_of e.value ++ r)
      (f.split bytes ∙ ap (λ k. code_of k ++ drop c.next s) (sym (delay_back c.value)))))
      ∙ four_codes u.value v.value e.value (delay_code (delay_meant c.value)) (drop c.next s);
  fits = f.fits;
  within = record {
    source = omega (arith, a.high_ok);
    target = omega (arith, b.high_ok);
    offset = d.high_ok;
    delay = delay_within c.value f.high_ok;
  };
}

pub rule_back : (s : List ℕ) (at n : ℕ) → at ≤ length s → 1 ≤ n → (rule_at_of s at n).refusal ≤ 0 → RuleHere s at n (rule_at_of s at n)
unfolding rule_at_of
rule_back s at n h p =
    then_split P rule_bad_of _ (num_at s at 0 (n - 1)) (λ l g. absurd (omega arith)) (λ l.
    let u = num_back s at 0 (n - 1) h l in
    then_split P rule_bad_of _ (num_at s _ 0 (n - 1)) (λ l g. absurd (omega arith)) (λ l.
    let v = num_back s _ 0 (n - 1) u.fits l in
    then_split P rule_bad_of _ (num_at s _ 0 max_offset) (λ l g. absurd (omega arith)) (λ l.
    let e = num_back s _ 0 max_offset v.fits l in
    then_split P rule_bad_of _ (num_at s _ 0 (max_delay + 1)) (λ l g. absurd (omega arith)) (λ l g.
    rule_made s at n _ _ _ _ p u v e (num_back s _ 0 (max_delay + 1) e.fits l)))))
  where
    P : RuleRead → Type 0
    P x = x.refusal ≤ 0 → RuleHere s at n x

-- ---- the rules

-- what an accepted reading of `left` rules from rule r on leaves of the table t: u has them, their bytes stand at `at` and end
-- the file, and every other place is as it was
pub record RulesHere (s : List ℕ) (n : ℕ) (t : Table) (at r left : ℕ) (u : Table) : Type 0 where
  pub bytes : Bytes s → drop at s ≡ rules_bytes u r left
  pub same_n : u.n ≡ t.n
  pub same_m : u.m ≡ t.m
  pub places : length u.rules ≡ length t.rules
  pub below : (k : ℕ) → k < r → rule_of u k ≡ rule_of t k
  pub above : (k : ℕ) → r + left ≤ k → rule_of u k ≡ rule_of t k
  pub within : (k : ℕ) → r ≤ k → k < r + left → RuleWithin n (rule_of u k)

-- the reading ends
rules_back_end : (s : List ℕ) (n : ℕ) (t : Table) (at r : ℕ) → (rules_from_of s n t at r 0).refusal ≤ 0 → RulesHere s n t at r 0 (rules_from_of s n t at r 0).table
unfolding rules_bytes
rules_back_end s n t at r = by_cases (dec_lt at (length s)) tail end
  where
    P : FileRead → Type 0
    P x = x.refusal ≤ 0 → RulesHere s n t at r 0 x.table

    tail : at < length s → P (rules_from_of s n t at r 0)
    tail l = subst⁻¹ P (rules_tail s n t at r 0 refl l) (λ g. absurd (omega arith))

    end : ¬ (at < length s) → P (rules_from_of s n t at r 0)
    end l =
        subst⁻¹ P (rules_end s n t at r 0 refl (omega arith)) (λ g. record {
          bytes = λ _. drop_of_length-le s {i = at} (omega arith);
          same_n = refl;
          same_m = refl;
          places = refl;
          below = λ k _. refl;
          above = λ k _. refl;
          within = λ k i j. absurd (omega arith);
        })

-- one rule read, and what is known of the others
rules_back_more : (s : List ℕ) (n : ℕ) (t : Table) (at r left : ℕ) (x : RuleRead) (u : Table) → r < length t.rules → RuleHere s at n x
    → RulesHere s n (with_rule t r x.rule) x.next (r + 1) left u → RulesHere s n t at r (suc left) u
unfolding rules_bytes
rules_back_more s n t at r left x u f a b = record {
  bytes = λ bytes. a.split bytes ∙ ap (λ (y : Rule). rule_bytes y ++ drop x.next s) (sym here) ∙ ap (λ (ys : List ℕ). rule_bytes (rule_of u r) ++ ys) (b.bytes bytes);
  same_n = b.same_n;
  same_m = b.same_m;
  places = b.places ∙ length-set t.rules r x.rule;
  below = λ k h. b.below k (omega arith) ∙ get_or-set_other t.rules r k x.rule unused_rule (λ e. omega arith);
  above = λ k h. b.above k (omega arith) ∙ get_or-set_other t.rules r k x.rule unused_rule (λ e. omega arith);
  within = λ k i j. by_cases (ℕ_discrete k r)
      (λ e. subst⁻¹ (λ k. RuleWithin n (rule_of u k)) e (subst⁻¹ (RuleWithin n) here a.within))
      (λ e. b.within k (omega arith) (omega arith));
}
  where
    here : rule_of u r ≡ x.rule
    here = b.below r (omega arith) ∙ get_or-set_same t.rules r x.rule unused_rule f

-- what an accepted reading of `left` rules comes to, wherever it starts
abbrev RulesRead : List ℕ → ℕ → ℕ → Type 0
RulesRead s n left =
    (t : Table) (at r : ℕ) → at ≤ length s → r + left ≤ length t.rules
    → (rules_from_of s n t at r left).refusal ≤ 0 → RulesHere s n t at r left (rules_from_of s n t at r left).table

rules_back_step : (s : List ℕ) (n : ℕ) → 1 ≤ n → (left : ℕ) → RulesRead s n left → RulesRead s n (suc left)
rules_back_step s n p left others t at r h f = by_cases (dec_lt 0 x.refusal) stop go
  where
    x : RuleRead
    x = rule_at_of s at n

    P : FileRead → Type 0
    P y = y.refusal ≤ 0 → RulesHere s n t at r (suc left) y.table

    stop : 0 < x.refusal → P (rules_from_of s n t at r (suc left))
    stop l = subst⁻¹ P (rules_bad s n t at r (suc left) x refl (omega arith) l) (λ g. absurd (omega arith))

    go : ¬ (0 < x.refusal) → P (rules_from_of s n t at r (suc left))
    go l =
        let here = rule_back s at n h p (omega arith) in
        let k : left ≡ suc left - 1 = omega arith in
        subst⁻¹ P (rules_good s n t at r (suc left) x refl (omega arith) (omega arith))
        (subst (λ m. P (rules_from_of s n (with_rule t r x.rule) x.next (r + 1) m)) k
        (λ g. rules_back_more s n t at r left x _ (omega arith) here (others (with_rule t r x.rule) x.next (r + 1) here.fits (simp length-set (omega arith)) g)))

rules_back : (s : List ℕ) (n : ℕ) → 1 ≤ n → (left : ℕ) → RulesRead s n left
rules_back s n p zero = λ t at r h f. rules_back_end s n t at r
rules_back s n p (suc left) = rules_back_step s n p left (rules_back s n p left)

-- ---- a file

-- the bytes s are the file of the table t, which is within its limits and has its unused places in their form
pub record IsFile (s : List ℕ) (t : Table) : Type 0 where
  pub bytes : s ≡ file_of t
  pub within : Within t
  pub unused : Unused t

file_made : (s : List ℕ) (n m : ℕ) (u : Table) → u.n ≡ n → u.m ≡ m → s ≡ code_of n ++ (code_of m ++ rules_bytes u 0 m) → s ≡ file_of u
file_made s n m u en em e =
    e
    ∙ ap (λ k. code_of k ++ (code_of m ++ rules_bytes u 0 m)) (sym en)
    ∙ ap (λ k. code_of u.n ++ (code_of k ++ rules_bytes u 0 k)) (sym em)
    ∙ sym (file_codes u)

-- what is known of an accepted file s and its table t, whatever the elements of s are
pub record Accepted (s : List ℕ) (t : Table) : Type 0 where
  pub bytes : Bytes s → s ≡ file_of t
  pub within : Within t
  pub unused : Unused t

accepted_made : (s : List ℕ) (n m : Num) (u : Table) → NumRead s 0 min_n max_n n → NumRead s n.next 0 max_m m
    → RulesHere s n.value (sized n.value m.value) m.next 0 m.value u → Accepted s u
accepted_made s n m u a b c = record {
  bytes = λ bytes. file_made s n.value m.value u c.same_n c.same_m
      (a.split bytes ∙ ap (λ (r : List ℕ). code_of n.value ++ r) (b.split bytes ∙ ap (λ (r : List ℕ). code_of m.value ++ r) (c.bytes bytes)));
  within = record {
    n_low = omega (arith, c.same_n, a.low_ok);
    n_high = omega (arith, c.same_n, a.high_ok);
    m_high = omega (arith, c.same_m, b.high_ok);
    rule = λ r h. subst⁻¹ (λ k. RuleWithin k (rule_of u r)) c.same_n (c.within r (omega arith) (omega (arith, c.same_m)));
  };
  unused = record {
    places = c.places ∙ length-replicate max_m unused_rule;
    unused = λ r h. c.above r (omega (arith, c.same_m)) ∙ all_unused max_m r;
  };
}

pub accepted_read_lem : (s : List ℕ) → (read_of s).refusal ≡ 0 → Accepted s (read_of s).table
unfolding read_of
accepted_read_lem s e =
    then_split P refused_read _ (num_at s 0 min_n max_n) (λ l g. absurd (omega arith)) (λ l.
    let n = num_back s 0 min_n max_n (omega arith) l in
    then_split P refused_read _ (num_at s _ 0 max_m) (λ l g. absurd (omega arith)) (λ l g.
    let m = num_back s _ 0 max_m n.fits l in
    accepted_made s _ _ _ n m
    (rules_back s _ n.low_ok _ _ _ 0 m.fits (omega (arith, m.high_ok, length-replicate max_m unused_rule)) g)))
    (omega arith)
  where
    P : FileRead → Type 0
    P x = x.refusal ≤ 0 → Accepted s x.table

-- WHAT IS ACCEPTED IS THE FILE OF ITS TABLE
pub accepted_is_file : (s : List ℕ) → Bytes s → (read_of s).refusal ≡ 0 → IsFile s (read_of s).table
accepted_is_file s b e = let a = accepted_read_lem s e in record { bytes = a.bytes b; within = a.within; unused = a.unused }
