-- How long a file is.
--
--   longest          the longest file of a table within its limits
--   long_rule, long_table   a rule and a table whose bytes are as many as can be
--   small_code, middle_code, any_code, code_within, four_length, rule_length_lem   how long the parts are
--
-- Theorems: file_length_lem (no file is longer), longest_attained (one is as long). Assumes nothing.
use Rattle.std.specs.Prelude.{ℕ, zero, suc, ◌+◌, ◌-◌, ◌*◌, ◌≤◌, ◌<◌, ◌≡◌, refl, ◌++◌, length, replicate}
use Rattle.std.proofs.Common.{ap, arith, length-append}
use Rattle.std.proofs.Math.Path.{subst⁻¹}
use Rattle.std.proofs.lemmas.List.{get_or-replicate}
use Rattle.sevens.specs.Sevens.{code_in, code_of, code_length_of}
use Rattle.sevens.specs.Laws.{code_size}
use Rattle.table.specs.Limits.{max_n, max_m, max_offset, max_delay}
use Rattle.table.specs.Form.{unused_rule, rule_of}
use Rattle.table.specs.Fields.{DelayOk, RuleWithin, Within}
use Rattle.table.specs.declared.Delay.{Delay}
use Rattle.table.specs.declared.Delay.TheVariants.{Known, Unknown}
use Rattle.table.specs.declared.Rule.{Rule}
use Rattle.table.specs.declared.Table.{Table}
use Rattle.rulefile.specs.File.{delay_code, rule_bytes, rules_bytes, file_of}

-- two bytes for n, two for m, and for each rule two, two, one and three
abbrev pub longest : ℕ
longest = 4 + 8 * max_m

-- which is the paper's number
pub longest_is : longest ≡ 16388
longest_is = refl

-- codes of values within their limits take one, two or three bytes
pub small_code : (v : ℕ) → v < 128 → code_length_of v ≤ 1
small_code v h = code_size 1 v (omega arith) (omega arith)

pub middle_code : (v : ℕ) → v < 16384 → code_length_of v ≤ 2
middle_code v h = code_size 2 v (omega arith) (omega arith)

pub any_code : (v : ℕ) → v < 2097152 → code_length_of v ≤ 3
any_code v h = code_size 3 v (omega arith) (omega arith)

pub code_within : (d : Delay) → DelayOk d → delay_code d ≤ max_delay + 1
code_within Unknown h = omega arith
code_within (Known d) h = omega arith

pub four_length : (u v e c : ℕ) → length (code_of u ++ code_of v ++ code_of e ++ code_of c) ≡ code_length_of u + code_length_of v + code_length_of e + code_length_of c
four_length u v e c = simp length-append

-- a rule within its limits takes at most eight bytes
pub rule_length_lem : (n : ℕ) (x : Rule) → n ≤ max_n → RuleWithin n x → length (rule_bytes x) ≤ 8
unfolding rule_bytes
rule_length_lem n x h w =
    omega (
      arith,
      four_length x.source x.target x.offset (delay_code x.delay),
      middle_code x.source (omega (arith, w.source)),
      middle_code x.target (omega (arith, w.target)),
      small_code x.offset (omega (arith, w.offset)),
      any_code (delay_code x.delay) (omega (arith, code_within x.delay w.delay)),
    )

rules_length : (t : Table) → t.n ≤ max_n → (left r : ℕ) → ((k : ℕ) → r ≤ k → k < r + left → RuleWithin t.n (rule_of t k)) → length (rules_bytes t r left) ≤ 8 * left
unfolding rules_bytes
rules_length t h zero r w = omega arith
rules_length t h (suc left) r w =
    omega (
      arith,
      length-append (rule_bytes (rule_of t r)) (rules_bytes t (r + 1) left),
      rule_length_lem t.n (rule_of t r) h (w r (omega arith) (omega arith)),
      rules_length t h left (r + 1) (λ k i j. w k (omega arith) (omega arith)),
    )

-- NO FILE IS LONGER
pub file_length_lem : (t : Table) → Within t → length (file_of t) ≤ longest
unfolding file_of
file_length_lem t w =
    omega (
      arith,
      w.m_high,
      length-append (code_of t.n ++ code_of t.m) (rules_bytes t 0 t.m),
      length-append (code_of t.n) (code_of t.m),
      middle_code t.n (omega (arith, w.n_high)),
      middle_code t.m (omega (arith, w.m_high)),
      rules_length t w.n_high t.m 0 (λ k i j. w.rule k (omega arith)),
    )

-- the rule whose code is longest
abbrev pub long_rule : Rule
long_rule = record { source = max_n - 1; target = max_n - 1; offset = max_offset; delay = Known max_delay }

abbrev pub long_table : Table
long_table = record { n = max_n; m = max_m; rules = replicate max_m long_rule }

long_rule_length : length (rule_bytes long_rule) ≡ 8
unfolding rule_bytes code_of code_in
long_rule_length = refl

long_rules_length : (left r : ℕ) → r + left ≤ max_m → length (rules_bytes long_table r left) ≡ 8 * left
unfolding rules_bytes
long_rules_length zero r h = refl
long_rules_length (suc left) r h =
    let e : rule_of long_table r ≡ long_rule = get_or-replicate max_m r long_rule unused_rule (omega arith) in
    omega (arith, length-append (rule_bytes (rule_of long_table r)) (rules_bytes long_table (r + 1) left), ap (λ (x : Rule). length (rule_bytes x)) e, long_rule_length, long_rules_length left (r + 1) (omega arith))

head_length : length (code_of max_n ++ code_of max_m) ≡ 4
unfolding code_of code_in
head_length = refl

length_is : (t : Table) (h k : ℕ) → length (code_of t.n ++ code_of t.m) ≡ h → length (rules_bytes t 0 t.m) ≡ k → length (file_of t) ≡ h + k
unfolding file_of
length_is t h k e f = omega (arith, length-append (code_of t.n ++ code_of t.m) (rules_bytes t 0 t.m))

long_within : Within long_table
long_within = record {
  n_low = omega arith;
  n_high = omega arith;
  m_high = omega arith;
  rule = λ r h. subst⁻¹ (RuleWithin max_n) (get_or-replicate max_m r long_rule unused_rule h) (record { source = omega arith; target = omega arith; offset = omega arith; delay = omega arith });
}

-- ONE FILE IS AS LONG
pub longest_attained : Within long_table × (length (file_of long_table) ≡ longest)
longest_attained = (long_within, length_is long_table 4 (8 * max_m) head_length (long_rules_length max_m 0 (omega arith)))
