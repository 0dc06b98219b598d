-- The rule file: its bytes, and what reading and writing one hand back. To be read beside the paper's "Bytes of a rule file" and "Numbers of refusal".
--
--   groups                      a number of a rule file has at most three groups
--   delay_code d, delay_meant c      the code of a delay, and the delay of a code
--   rule_bytes x                 the bytes of one rule
--   rules_bytes t r left         the bytes of `left` rules of t, from rule r on
--   file_of t                    the bytes of a table's file
--   Num, RuleRead               a number and a rule at a place of a file: a refusal and its place, or what was read and the place after it
--   num_told, rule_told x       the same, from the code's own result x; table_told x t: likewise of a reading into the table t; told_read x: of a file
--   num_at s at low high         the number at a place of the file s, which is to be from low to high
--   and_then bad x f             what f makes of the number x, or `bad` of its refusal
--   rule_at_of s at n               the rule at a place of s, of a table with n transitions
--   rules_from_of s n t at r left   the rest of the file: `left` rules from rule r on into t, and nothing after them
--   refused_read, accepted_read   what a refused read hands back, and an accepted one
--   read_of s                    what reading s hands back
--   Written                     what writing a file hands back; told_written x: the same, from the code's own result x
--   Writes t out w after        what writing t into the buffer `out` hands back, and the buffer after
use Rattle.std.specs.Prelude.{ℕ, zero, suc, ◌+◌, ◌-◌, ◌≤◌, ◌<◌, ◌≡◌, List, [], ◌++◌, length, drop, ltb, Result, Ok, Err}
use Rattle.refusals.specs.declared.Refusal.{Refusal}
use Rattle.refusals.specs.Number.{number_of as number_of_why}
use Rattle.sevens.specs.Sevens.{pick, Answer, number_of, code_of}
use Rattle.table.specs.Limits.{min_n, max_n, max_m, max_offset, max_delay}
use Rattle.table.specs.Form.{unused_rule, empty_table, sized, with_rule, rule_of}
use Rattle.table.specs.Fields.{Within, FirstBad}
use Rattle.table.specs.declared.Delay.{Delay}
use Rattle.table.specs.declared.Delay.TheVariants.{Known, Unknown}
use Rattle.table.specs.declared.Rule.{Rule}
use Rattle.table.specs.declared.Table.{Table}
use Rattle.rulefile.specs.declared.FileRead.{FileRead}

-- ---- the bytes

-- a number has at most three groups
abbrev pub groups : ℕ
groups = 3

-- code 0 is unknown, code d + 1 is the known delay d
abbrev pub delay_code : Delay → ℕ
delay_code Unknown = 0
delay_code (Known d) = d + 1

-- the same, the other way
abbrev pub delay_meant : ℕ → Delay
delay_meant zero = Unknown
delay_meant (suc d) = Known d

-- a rule is its source, target, offset and delay code
unfoldable pub rule_bytes : Rule → List ℕ
rule_bytes x = code_of x.source ++ code_of x.target ++ code_of x.offset ++ code_of (delay_code x.delay)

-- `left` rules of t one after the other, from rule r on
unfoldable pub rules_bytes : Table → ℕ → ℕ → List ℕ
rules_bytes t r zero = []
rules_bytes t r (suc left) = rule_bytes (rule_of t r) ++ rules_bytes t (r + 1) left

-- a file is n, m, and the m rules
unfoldable pub file_of : Table → List ℕ
file_of t = code_of t.n ++ code_of t.m ++ rules_bytes t 0 t.m

-- ---- reading

-- a number at a place of the file: a refusal and its place, or 0, 0, its value and the place after it
pub record Num : Type 0 where
  pub refusal : ℕ
  pub place : ℕ
  pub value : ℕ
  pub next : ℕ

-- a number refused, and one read
abbrev pub num_bad : ℕ → ℕ → Num
num_bad number place = record { refusal = number; place = place; value = 0; next = 0 }

abbrev pub num_good : ℕ → ℕ → Num
num_good v next = record { refusal = 0; place = 0; value = v; next = next }

-- what the code hands back of a number
abbrev pub num_told : Result (ℕ × ℕ) Refusal → Num
num_told (Ok x) = num_good x.0 x.1
num_told (Err e) = num_bad (number_of_why e.why) e.place

-- what was found at `at`, with places counted from the start of s
abbrev pub num_from : List ℕ → ℕ → Answer → Num
num_from s at x =
    pick (ltb 0 x.refusal) (num_bad x.refusal (at + x.place)) (num_good x.value (length s - length x.rest))

-- the number at the place `at` of s
unfoldable pub num_at : List ℕ → ℕ → ℕ → ℕ → Num
num_at s at low high = num_from s at (number_of groups (drop at s) low high)

-- a number refused stops the reading; one read hands its value and the place after it on
unfoldable pub and_then : {A : Type 0} → (ℕ → ℕ → A) → Num → (ℕ → ℕ → A) → A
and_then bad x f = pick (ltb 0 x.refusal) (bad x.refusal x.place) (f x.value x.next)

-- a rule at a place of the file, likewise
pub record RuleRead : Type 0 where
  pub refusal : ℕ
  pub place : ℕ
  pub rule : Rule
  pub next : ℕ

-- a rule refused, and one read
abbrev pub rule_bad_of : ℕ → ℕ → RuleRead
rule_bad_of number place = record { refusal = number; place = place; rule = unused_rule; next = 0 }

abbrev pub rule_good : Rule → ℕ → RuleRead
rule_good x next = record { refusal = 0; place = 0; rule = x; next = next }

-- what the code hands back of a rule
abbrev pub rule_told : Result (Rule × ℕ) Refusal → RuleRead
rule_told (Ok x) = rule_good x.0 x.1
rule_told (Err e) = rule_bad_of (number_of_why e.why) e.place

-- a rule: source and target below n, offset, delay code
unfoldable pub rule_at_of : List ℕ → ℕ → ℕ → RuleRead
rule_at_of s at n =
    and_then rule_bad_of (num_at s at 0 (n - 1)) (λ source a.
    and_then rule_bad_of (num_at s a 0 (n - 1)) (λ target b.
    and_then rule_bad_of (num_at s b 0 max_offset) (λ offset c.
    and_then rule_bad_of (num_at s c 0 (max_delay + 1)) (λ code next.
    rule_good (record { source = source; target = target; offset = offset; delay = delay_meant code }) next))))

-- a refused read hands back number, place and the empty table
abbrev pub refused_read : ℕ → ℕ → FileRead
refused_read number place = record { refusal = number; place = place; table = empty_table }

abbrev pub accepted_read : Table → FileRead
accepted_read t = record { refusal = 0; place = 0; table = t }

-- what a reading into the table t hands back
abbrev pub table_told : Result (Unit {0}) Refusal → Table → FileRead
table_told (Ok u) t = accepted_read t
table_told (Err e) t = refused_read (number_of_why e.why) e.place

-- what the code hands back of a file
abbrev pub told_read : Result Table Refusal → FileRead
told_read (Ok t) = accepted_read t
told_read (Err e) = refused_read (number_of_why e.why) e.place

-- what is left of the file at `at`: `left` rules from rule r on, and nothing after the last
unfoldable pub rules_from_of : List ℕ → ℕ → Table → ℕ → ℕ → ℕ → FileRead
rules_from_of s n t at r zero = pick (ltb at (length s)) (refused_read 4 at) (accepted_read t)
rules_from_of s n t at r (suc left) =
    pick (ltb 0 (rule_at_of s at n).refusal)
    (refused_read (rule_at_of s at n).refusal (rule_at_of s at n).place)
    (rules_from_of s n (with_rule t r (rule_at_of s at n).rule) (rule_at_of s at n).next (r + 1) left)

-- a file: n, m, and m rules into a table of unused ones
unfoldable pub read_of : List ℕ → FileRead
read_of s =
    and_then refused_read (num_at s 0 min_n max_n) (λ n at.
    and_then refused_read (num_at s at 0 max_m) (λ m from.
    rules_from_of s n (sized n m) from 0 m))

-- ---- writing

-- a refusal, its place and 0; or 0, 0 and the count of bytes written
pub record Written : Type 0 where
  pub refusal : ℕ
  pub place : ℕ
  pub count : ℕ

abbrev pub refused_write : ℕ → ℕ → Written
refused_write number place = record { refusal = number; place = place; count = 0 }

abbrev pub written_as : ℕ → Written
written_as count = record { refusal = 0; place = 0; count = count }

-- what the code hands back of a writing
abbrev pub told_written : Result ℕ Refusal → Written
told_written (Ok count) = written_as count
told_written (Err e) = refused_write (number_of_why e.why) e.place

-- what w and the buffer afterwards are: a table outside its limits is refused 3 at its first such field, then a buffer that is
-- too short 8 with the length needed, and the buffer is as it was; otherwise it starts with the file, and the rest is as it was
pub record Writes (t : Table) (out : List ℕ) (w : Written) (after : List ℕ) : Type 0 where
  pub range : (k : ℕ) → FirstBad t k → (w ≡ refused_write 3 k) × (after ≡ out)
  pub room : Within t → length out < length (file_of t) → (w ≡ refused_write 8 (length (file_of t))) × (after ≡ out)
  pub written : Within t → length (file_of t) ≤ length out
      → (w ≡ written_as (length (file_of t))) × (after ≡ file_of t ++ drop (length (file_of t)) out)
