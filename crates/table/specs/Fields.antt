-- The fields of a table in file order, each with its limits, and what the check of a table hands back.
--
--   DelayOk d        an unknown delay, or a known one of at most max_delay
--   RuleOk n x j     field j of the rule x is within its limits: 0 source, 1 target, 2 offset, 3 delay
--   Ok t k           field k of t is within its limits: 0 n, 1 m, 2 + 4r to 5 + 4r the four of rule r
--   fields t         how many fields t has: two, and four for each rule
--   RuleWithin n x   every field of the rule x is within its limits
--   Within t         every field of t is within its limits
--   FirstBad t k     k is the first field of t that is not
--   FirstIn n x j    j is the first field of the rule x that is not
--   Judged t x       what the check of t hands back
--
-- Theorems: within_ok and ok_within (Within is Ok of every field), first_bad_unique, within_or_first_bad (decidable), judged_unique (a single outcome).
use Prim.{Unit, tt}
use Rattle.std.specs.Prelude.{◌⊎◌, ◌≡◌, ℕ, zero, suc, ◌+◌, ◌*◌, ◌/◌, ◌%◌, ◌≤◌, ◌<◌}
use Rattle.std.proofs.Common.{inl, inr, ⊎_elim, ap, sym, ◌∙◌, subst, arith}
use Rattle.std.proofs.Math.Logic.{by_cases}
use Rattle.std.proofs.Math.Logic.Dec
use Rattle.std.proofs.Math.Decide.{ℕ_discrete, dec_lt, dec_le}
use Rattle.table.specs.Limits.{min_n, max_n, max_m, max_offset, max_delay}
use Rattle.table.specs.Form.{rule_of}
use Rattle.table.specs.declared.Delay.{Delay}
use Rattle.table.specs.declared.Delay.TheVariants.{Known, Unknown}
use Rattle.table.specs.declared.Rule.{Rule}
use Rattle.table.specs.declared.Table.{Table}
use Rattle.refusals.specs.Number.{Told}

-- an unknown delay is within its limits, a known one up to the highest
abbrev pub DelayOk : Delay → Type 0
DelayOk Unknown = Unit {0}
DelayOk (Known d) = d ≤ max_delay

-- field j of a rule x, in a table with n transitions, is within its limits
abbrev pub RuleOk : ℕ → Rule → ℕ → Type 0
RuleOk n x zero = x.source < n
RuleOk n x (suc zero) = x.target < n
RuleOk n x (suc (suc zero)) = x.offset ≤ max_offset
RuleOk n x (suc (suc (suc j))) = DelayOk x.delay

-- field k of t, counted in file order, is within its limits
abbrev pub Ok : Table → ℕ → Type 0
Ok t zero = (min_n ≤ t.n) × (t.n ≤ max_n)
Ok t (suc zero) = t.m ≤ max_m
Ok t (suc (suc k)) = RuleOk t.n (rule_of t (k / 4)) (k % 4)

-- a table has two fields, and four for each of its m rules
abbrev pub fields : Table → ℕ
fields t = 2 + 4 * t.m

-- a rule of a table with n transitions is within its limits
pub record RuleWithin (n : ℕ) (x : Rule) : Type 0 where
  pub source : x.source < n
  pub target : x.target < n
  pub offset : x.offset ≤ max_offset
  pub delay : DelayOk x.delay

-- t is within its limits, with each of its m rules
pub record Within (t : Table) : Type 0 where
  pub n_low : min_n ≤ t.n
  pub n_high : t.n ≤ max_n
  pub m_high : t.m ≤ max_m
  pub rule : (r : ℕ) → r < t.m → RuleWithin t.n (rule_of t r)

-- k is the first field of t outside its limits
pub record FirstBad (t : Table) (k : ℕ) : Type 0 where
  pub counted : k < fields t
  pub bad : ¬ (Ok t k)
  pub before : (j : ℕ) → j < k → Ok t j

-- j is the first field of the rule x outside its limits
pub record FirstIn (n : ℕ) (x : Rule) (j : ℕ) : Type 0 where
  pub counted : j < 4
  pub bad : ¬ (RuleOk n x j)
  pub before : (i : ℕ) → i < j → RuleOk n x i

-- a table within its limits is not refused; any other is refused 3 at its first field outside them
abbrev pub Judged : Table → Told → Type 0
Judged t x = (Within t × (x.refusal ≡ 0) × (x.place ≡ 0)) ⊎ (FirstBad t x.place × (x.refusal ≡ 3))

-- Laws of the first field --------------------------------------------------------------------------------------------------

-- ONLY ONE FIELD IS THE FIRST BAD ONE
pub first_bad_unique : (t : Table) (j k : ℕ) → FirstBad t j → FirstBad t k → j ≡ k
first_bad_unique t j k a b =
    by_cases (dec_lt j k) (λ h. absurd (a.bad (b.before j h)))
    (λ h. by_cases (dec_lt k j) (λ g. absurd (b.bad (a.before k g))) (λ g. omega arith))

module _ (t : Table) (r j : ℕ) (h : j < 4) where
  place : suc (suc (4 * r + j)) ≡ 2 + 4 * r + j
  place = omega arith

  rule_place : (4 * r + j) / 4 ≡ r
  rule_place = omega arith

  field_place : (4 * r + j) % 4 ≡ j
  field_place = omega arith

  -- field j of rule r is field 2 + 4r + j of the table
  pub rule_field : RuleOk t.n (rule_of t r) j → Ok t (2 + 4 * r + j)
  rule_field a = subst (Ok t) place (rw (rule_place, field_place) a)

  pub field_rule : Ok t (2 + 4 * r + j) → RuleOk t.n (rule_of t r) j
  field_rule a = rw (rule_place, field_place) at (subst (Ok t) (sym place) a)

-- Laws of one rule's fields ------------------------------------------------------------------------------------------------

-- a rule within its limits is so field by field
fields_of : (n : ℕ) (x : Rule) → RuleWithin n x → (i : ℕ) → RuleOk n x i
fields_of n x w zero = w.source
fields_of n x w (suc zero) = w.target
fields_of n x w (suc (suc zero)) = w.offset
fields_of n x w (suc (suc (suc i))) = w.delay

-- Within, and Ok of every field --------------------------------------------------------------------------------------------

-- EVERY FIELD OK IS WITHIN
pub ok_within : (t : Table) → ((k : ℕ) → k < fields t → Ok t k) → Within t
ok_within t all = record {
  n_low = (all 0 (omega arith)).0;
  n_high = (all 0 (omega arith)).1;
  m_high = all 1 (omega arith);
  rule = λ r h. record {
    source = field_rule t r 0 (omega arith) (all (2 + 4 * r + 0) (omega arith));
    target = field_rule t r 1 (omega arith) (all (2 + 4 * r + 1) (omega arith));
    offset = field_rule t r 2 (omega arith) (all (2 + 4 * r + 2) (omega arith));
    delay = field_rule t r 3 (omega arith) (all (2 + 4 * r + 3) (omega arith));
  };
}

-- WITHIN IS EVERY FIELD OK
pub within_ok : (t : Table) → Within t → (k : ℕ) → k < fields t → Ok t k
within_ok t w zero h = (w.n_low, w.n_high)
within_ok t w (suc zero) h = w.m_high
within_ok t w (suc (suc k)) h = fields_of t.n (rule_of t (k / 4)) (w.rule (k / 4) (omega arith)) (k % 4)

pub within_not_bad : (t : Table) (k : ℕ) → Within t → FirstBad t k → ⊥
within_not_bad t k w b = b.bad (within_ok t w k b.counted)

delay_dec : (d : Delay) → Dec (DelayOk d)
delay_dec Unknown = yes tt
delay_dec (Known d) = dec_le d max_delay

rule_dec : (n : ℕ) (x : Rule) (j : ℕ) → Dec (RuleOk n x j)
rule_dec n x zero = dec_lt x.source n
rule_dec n x (suc zero) = dec_lt x.target n
rule_dec n x (suc (suc zero)) = dec_le x.offset max_offset
rule_dec n x (suc (suc (suc j))) = delay_dec x.delay

ok_dec : (t : Table) (k : ℕ) → Dec (Ok t k)
ok_dec t zero = Dec.and (dec_le min_n t.n) (dec_le t.n max_n)
ok_dec t (suc zero) = dec_le t.m max_m
ok_dec t (suc (suc k)) = rule_dec t.n (rule_of t (k / 4)) (k % 4)

first_to : (t : Table) (k : ℕ) → k ≤ fields t → ((j : ℕ) → j < k → Ok t j) ⊎ ((j : ℕ) × FirstBad t j)
first_to t zero h = inl (λ j g. absurd (omega arith))
first_to t (suc k) h =
    ⊎_elim
    (λ all. by_cases (ok_dec t k)
    (λ o. inl (λ j g. by_cases (ℕ_discrete j k) (λ e. subst (Ok t) (sym e) o) (λ d. all j (omega arith))))
    (λ n. inr (k, record { counted = omega arith; bad = n; before = all })))
    (λ b. inr b)
    (first_to t k (omega arith))

-- WITHIN, OR A FIRST BAD FIELD
pub within_or_first_bad : (t : Table) → Within t ⊎ ((k : ℕ) × FirstBad t k)
within_or_first_bad t = ⊎_elim (λ all. inl (ok_within t all)) (λ b. inr b) (first_to t (fields t) (omega arith))

same_checked : (x y : Told) → x.refusal ≡ y.refusal → x.place ≡ y.place → x ≡ y
same_checked x y e f = ap (λ r. record { refusal = r; place = x.place }) e ∙ ap (λ p. record { refusal = y.refusal; place = p }) f

-- A SINGLE OUTCOME: THE CHECK OF A TABLE
pub judged_unique : (t : Table) (x y : Told) → Judged t x → Judged t y → x ≡ y
judged_unique t x y (inl a) (inl b) = same_checked x y (a.1 ∙ sym b.1) (a.2 ∙ sym b.2)
judged_unique t x y (inl a) (inr b) = absurd (within_not_bad t y.place a.0 b.0)
judged_unique t x y (inr a) (inl b) = absurd (within_not_bad t x.place b.0 a.0)
judged_unique t x y (inr a) (inr b) = same_checked x y (a.1 ∙ sym b.1) (first_bad_unique t x.place y.place a.0 b.0)
