-- Reading and writing undo one another, and each promise has a single outcome.
--
-- What `read` promises is an equation, `r ≡ read_of bytes`: a single outcome. What `write` promises is `Writes`: `writes_unique`.
-- A slice's elements are below 256, which `Bytes s` says of a list; without it `256 1 0` and `128 2 0` would read alike.
--
--   accepted_iff         a file is accepted exactly when it is the file of a table within its limits, unused places in their form
--   file_accepted        the file of such a table is accepted, and reads as that table
--   read_within          the table of an accepted file is within its limits
--   read_unused          every table handed back has its unused places in their form
--   refused_empty        a refused read hands back the empty table
--   accepted_length      no accepted file is longer than `longest`
--   read_then_written    an accepted file, written again, is itself
--   ReadsBack t x        x is an accepted read of a table with t's n, m and rules
--   written_then_read    a table that was written reads back so
--   writes_unique        writing has a single outcome
use Rattle.std.specs.Prelude.{ℕ, zero, suc, ◌+◌, ◌-◌, ◌≤◌, ◌<◌, ◌≡◌, refl, ◌↔◌, List, ◌++◌, length, drop, take}
use Rattle.std.proofs.Common.{ap, sym, ◌∙◌, subst, ⊎_elim, arith}
use Rattle.std.proofs.Math.Path.{subst⁻¹}
use Rattle.std.proofs.Math.Logic.{by_cases}
use Rattle.std.proofs.Math.Decide.{dec_lt}
use Rattle.std.proofs.Math.Seq.{take-append_seam}
use Rattle.sevens.specs.Sevens.{Bytes}
use Rattle.table.specs.Limits.{min_n, max_n, max_m}
use Rattle.table.specs.Form.{empty_table, with_rule, Unused, SameRules, same_table, sized_unused}
use Rattle.table.specs.Fields.{Within, within_or_first_bad}
use Rattle.table.specs.declared.Table.{Table}
use Rattle.rulefile.specs.declared.FileRead.{FileRead}
use Rattle.rulefile.specs.File.{file_of, num_at, rule_at_of, refused_read, accepted_read, rules_from_of, read_of, Written, written_as, Writes}
use Rattle.rulefile.specs.Steps.{then_split, rules_bad, rules_good, rules_tail, rules_end}
use Rattle.rulefile.specs.Length.{longest, file_length_lem}
use Rattle.rulefile.specs.Accepted.{IsFile, accepted_read_lem, accepted_is_file}
use Rattle.rulefile.specs.Coded.{tidied, file_read, tidied_same, tidied_unused}

-- ---- reading

-- THE FILE OF A TABLE IS ACCEPTED
pub file_accepted : (t : Table) → Within t → Unused t → read_of (file_of t) ≡ accepted_read t
file_accepted t w u = file_read t w ∙ ap accepted_read (same_table t (tidied t) (tidied_same t w.m_high) u (tidied_unused t w.m_high))

-- ACCEPTED EXACTLY WHEN IT IS THE FILE OF ITS TABLE
pub accepted_iff : (s : List ℕ) (t : Table) → Bytes s → (read_of s ≡ accepted_read t) ↔ IsFile s t
accepted_iff s t b = (
  (λ e. subst (IsFile s) (ap (λ (x : FileRead). x.table) e) (accepted_is_file s b (ap (λ (x : FileRead). x.refusal) e))),
  (λ f. ap read_of f.bytes ∙ file_accepted t f.within f.unused),
)

-- AN ACCEPTED TABLE IS WITHIN ITS LIMITS
pub read_within : (s : List ℕ) → (read_of s).refusal ≡ 0 → Within (read_of s).table
read_within s e = (accepted_read_lem s e).within

abbrev Empties : FileRead → Type 0
Empties x = 0 < x.refusal → x.table ≡ empty_table

rules_empty : (s : List ℕ) (n left : ℕ) (t : Table) (at r : ℕ) → Empties (rules_from_of s n t at r left)
rules_empty s n zero t at r =
    by_cases (dec_lt at (length s))
    (λ l. subst⁻¹ Empties (rules_tail s n t at r 0 refl l) (λ g. refl))
    (λ l. subst⁻¹ Empties (rules_end s n t at r 0 refl (omega arith)) (λ g. absurd (omega arith)))
rules_empty s n (suc left) t at r =
    let x = rule_at_of s at n in
    let k : left ≡ suc left - 1 = omega arith in
    by_cases (dec_lt 0 x.refusal)
    (λ l. subst⁻¹ Empties (rules_bad s n t at r (suc left) x refl (omega arith) l) (λ g. refl))
    (λ l. subst⁻¹ Empties (rules_good s n t at r (suc left) x refl (omega arith) (omega arith))
    (subst (λ m. Empties (rules_from_of s n (with_rule t r x.rule) x.next (r + 1) m)) k (rules_empty s n left (with_rule t r x.rule) x.next (r + 1))))

-- A REFUSED READ HANDS BACK THE EMPTY TABLE
pub refused_empty : (s : List ℕ) → 0 < (read_of s).refusal → (read_of s).table ≡ empty_table
unfolding read_of
refused_empty s =
    then_split Empties refused_read _ (num_at s 0 min_n max_n) (λ l g. refl) (λ l.
    then_split Empties refused_read _ (num_at s _ 0 max_m) (λ l g. refl) (λ l.
    rules_empty s _ _ _ _ 0))

-- EVERY TABLE HANDED BACK HAS ITS UNUSED PLACES IN THEIR FORM
pub read_unused : (s : List ℕ) → Unused (read_of s).table
read_unused s =
    by_cases (dec_lt 0 (read_of s).refusal)
    (λ h. subst⁻¹ Unused (refused_empty s h) (sized_unused 0 0))
    (λ h. (accepted_read_lem s (omega arith)).unused)

-- NO ACCEPTED FILE IS LONGER
pub accepted_length : (s : List ℕ) → Bytes s → (read_of s).refusal ≡ 0 → length s ≤ longest
accepted_length s b e = let f = accepted_is_file s b e in omega (arith, ap length f.bytes, file_length_lem (read_of s).table f.within)

-- ---- writing

-- A SINGLE OUTCOME: WRITING
pub writes_unique : (t : Table) (out : List ℕ) (v w : Written) (a b : List ℕ) → Writes t out v a → Writes t out w b → (v ≡ w) × (a ≡ b)
writes_unique t out v w a b x y =
    ⊎_elim
    (λ i. by_cases (dec_lt (length out) (length (file_of t)))
    (λ l. both (x.room i l) (y.room i l))
    (λ l. both (x.written i (omega arith)) (y.written i (omega arith))))
    (λ f. both (x.range f.0 f.1) (y.range f.0 f.1))
    (within_or_first_bad t)
  where
    both : {z : Written} {c : List ℕ} → (v ≡ z) × (a ≡ c) → (w ≡ z) × (b ≡ c) → (v ≡ w) × (a ≡ b)
    both f g = (f.0 ∙ sym g.0, f.1 ∙ sym g.1)

-- ---- one after the other

-- AN ACCEPTED FILE, WRITTEN AGAIN, IS ITSELF
pub read_then_written : (s : List ℕ) (t : Table) (out : List ℕ) (w : Written) (after : List ℕ) → Bytes s → read_of s ≡ accepted_read t
    → length s ≤ length out → Writes t out w after → (w ≡ written_as (length s)) × (after ≡ s ++ drop (length s) out)
read_then_written s t out w after b e h x =
    let f = (accepted_iff s t b).0 e in
    subst⁻¹ (λ (z : List ℕ). length z ≤ length out → (w ≡ written_as (length z)) × (after ≡ z ++ drop (length z) out)) f.bytes
    (x.written f.within) h

-- a table that is not refused by writing is within its limits
written_within : (t : Table) (out : List ℕ) (w : Written) (after : List ℕ) → Writes t out w after → w.refusal ≡ 0 → Within t × (length (file_of t) ≤ length out)
written_within t out w after x e =
    ⊎_elim
    (λ i. by_cases (dec_lt (length out) (length (file_of t)))
    (λ l. absurd (omega (arith, ap (λ (z : Written). z.refusal) (x.room i l).0)))
    (λ l. (i, omega arith)))
    (λ f. absurd (omega (arith, ap (λ (z : Written). z.refusal) (x.range f.0 f.1).0)))
    (within_or_first_bad t)

-- x is an accepted read of a table with t's n, m and rules, and its unused places in their form
pub record ReadsBack (t : Table) (x : FileRead) : Type 0 where
  pub accepted : x.refusal ≡ 0
  pub same : SameRules t x.table
  pub unused : Unused x.table

file_reads_back : (t : Table) → Within t → ReadsBack t (read_of (file_of t))
file_reads_back t w =
    subst⁻¹ (ReadsBack t) (file_read t w)
    (record { accepted = refl; same = tidied_same t w.m_high; unused = tidied_unused t w.m_high })

-- WHAT WAS WRITTEN READS BACK
pub written_then_read : (t : Table) (out : List ℕ) (w : Written) (after : List ℕ) → Writes t out w after → w.refusal ≡ 0
    → ReadsBack t (read_of (take w.count after))
written_then_read t out w after x e =
    let i = written_within t out w after x e in
    let f = x.written i.0 i.1 in
    let c : take w.count after ≡ file_of t =
    ap (λ (z : Written). take z.count after) f.0 ∙ ap (take (length (file_of t))) f.1 ∙ take-append_seam (file_of t) (drop (length (file_of t)) out) in
    subst⁻¹ (λ (z : List ℕ). ReadsBack t (read_of z)) c (file_reads_back t i.0)
