-- The form of a table: unused places, the empty table, a table with one rule stored, and which delays are unknown.
--
--   unused_rule       source 0, target 0, offset 0, delay unknown
--   empty_table       n 0, m 0, every place unused
--   sized n m        n transitions, m rules to come, every place unused as yet
--   with_rule t r x   t with x in place r
--   rule_of t r       the rule in place r of t
--   is_unknown d      d is unknown
--   Unused t         t has all its places, and those from m on are unused
--   SameRules t u    t and u have the same n, m, and rules below m
--
-- Theorems: same_table (tables with the same rules and unused places in their form are equal); sized_unused (a table in which nothing is stored has its unused places in that form; so the empty table).
use Rattle.std.specs.Prelude.{ℕ, zero, suc, ◌≤◌, ◌<◌, Bool, true, false, ◌≡◌, refl, List, length, replicate, set, get_or}
use Rattle.std.proofs.Common.{sym, ◌∙◌, arith, ext_get_or}
use Rattle.std.proofs.Math.Logic.{by_cases}
use Rattle.std.proofs.Math.Decide.{dec_lt}
use Rattle.std.proofs.lemmas.List.{length-replicate}
use Rattle.table.specs.Limits.{max_m}
use Rattle.table.specs.declared.Delay.{Delay}
use Rattle.table.specs.declared.Delay.TheVariants.{Known, Unknown}
use Rattle.table.specs.declared.Rule.{Rule}
use Rattle.table.specs.declared.Table.{Table}

-- what an unused place holds
abbrev pub unused_rule : Rule
unused_rule = record { source = 0; target = 0; offset = 0; delay = Unknown }

-- n transitions and m rules, every place unused as yet
abbrev pub sized : ℕ → ℕ → Table
sized n m = record { n = n; m = m; rules = replicate max_m unused_rule }

-- no transition, no rule, every place unused
abbrev pub empty_table : Table
empty_table = sized 0 0

-- t with the rule x in place r
abbrev pub with_rule : Table → ℕ → Rule → Table
with_rule t r x = record { n = t.n; m = t.m; rules = set t.rules r x }

-- the rule in place r of t
abbrev pub rule_of : Table → ℕ → Rule
rule_of t r = get_or t.rules r unused_rule

-- whether a delay is unknown
abbrev pub is_unknown : Delay → Bool
is_unknown Unknown = true
is_unknown (Known d) = false

-- t has all its places, and every one from its m on is unused
pub record Unused (t : Table) : Type 0 where
  pub places : length t.rules ≡ max_m
  pub unused : (r : ℕ) → t.m ≤ r → rule_of t r ≡ unused_rule

-- t and u have the same n, the same m, and the same rules below it
pub record SameRules (t u : Table) : Type 0 where
  pub same_n : u.n ≡ t.n
  pub same_m : u.m ≡ t.m
  pub same_rule : (r : ℕ) → r < t.m → rule_of u r ≡ rule_of t r

made_same : (n m k l : ℕ) (xs ys : List Rule) → n ≡ k → m ≡ l → xs ≡ ys → ◌≡◌ {A = Table} (record { n = n; m = m; rules = xs }) (record { n = k; m = l; rules = ys })
made_same n m k l xs ys e f g = cc

-- SAME RULES AND UNUSED PLACES, SAME TABLE
pub same_table : (t u : Table) → SameRules t u → Unused t → Unused u → u ≡ t
same_table t u e a b =
    made_same u.n u.m t.n t.m u.rules t.rules e.same_n e.same_m
    (ext_get_or unused_rule u.rules t.rules (b.places ∙ sym a.places) (λ r h. each r))
  where
    each : (r : ℕ) → rule_of u r ≡ rule_of t r
    each r =
        by_cases (dec_lt r t.m) (e.same_rule r)
        (λ l. b.unused r (omega (arith, e.same_m)) ∙ sym (a.unused r (omega arith)))

-- every place of a list of unused rules is unused, and so is what lies past its end
pub all_unused : (k r : ℕ) → get_or (replicate k unused_rule) r unused_rule ≡ unused_rule
all_unused zero r = refl
all_unused (suc k) zero = refl
all_unused (suc k) (suc r) = all_unused k r

-- NOTHING STORED, ALL UNUSED
pub sized_unused : (n m : ℕ) → Unused (sized n m)
sized_unused n m = record { places = length-replicate max_m unused_rule; unused = λ r h. all_unused max_m r }
