-- What stands where: the plain equations of the table that is built from columns, and of columns that are filled.
--
-- Theorems: table_sizes, table_rule, table_unused (the table of some columns, place by place); put_value, put_rest (a column after its first m values were put).
use Rattle.std.specs.Prelude.{ℕ, zero, suc, ◌≤◌, ◌<◌, ◌≡◌, refl, List, length, get_or}
use Rattle.std.proofs.Common.{◌∙◌, arith, length-set, get_or-set_same, get_or-set_other}
use Rattle.std.proofs.Math.Logic.{by_cases}
use Rattle.std.proofs.Math.Decide.{ℕ_discrete}
use Rattle.std.proofs.lemmas.List.{length-replicate}
use Rattle.table.specs.Limits.{max_m}
use Rattle.table.specs.Form.{unused_rule, sized, rule_of, all_unused}
use Rattle.table.specs.declared.Table.{Table}
use Rattle.handed.specs.Columns.{Columns, rule_in, stored, filled_to, table_from, put_to}
use Rattle.handed.specs.Steps.{stored_within}

-- storing rules changes neither n, nor m, nor how many places there are
filled_sizes : (c : Columns) (t : Table) (k : ℕ) → ((filled_to c t k).n ≡ t.n) × ((filled_to c t k).m ≡ t.m) × (length (filled_to c t k).rules ≡ length t.rules)
unfolding filled_to
filled_sizes c t zero = (refl, refl, refl)
filled_sizes c t (suc k) =
    let h = filled_sizes c t k in
    (h.0, h.1, length-set (filled_to c t k).rules k (rule_in c k) ∙ h.2)

-- a rule that was stored
filled_rule : (c : Columns) (t : Table) (k r : ℕ) → r < k → k ≤ length t.rules → rule_of (filled_to c t k) r ≡ rule_in c r
unfolding filled_to
filled_rule c t zero r b l = absurd (omega arith)
filled_rule c t (suc k) r b l =
    by_cases (ℕ_discrete r k)
    (λ e. rw e (get_or-set_same (filled_to c t k).rules k (rule_in c k) unused_rule (omega (arith, (filled_sizes c t k).2))))
    (λ d. get_or-set_other (filled_to c t k).rules k r (rule_in c k) unused_rule d ∙ filled_rule c t k r (omega arith) (omega arith))

-- a place past those
filled_other : (c : Columns) (t : Table) (k r : ℕ) → k ≤ r → rule_of (filled_to c t k) r ≡ rule_of t r
unfolding filled_to
filled_other c t zero r b = refl
filled_other c t (suc k) r b = get_or-set_other (filled_to c t k).rules k r (rule_in c k) unused_rule (λ e. omega arith) ∙ filled_other c t k r (omega arith)

-- A TABLE FROM COLUMNS HAS THEIR N AND M,
pub table_sizes : (n : ℕ) (c : Columns) → ((table_from n c).n ≡ n) × ((table_from n c).m ≡ length c.source)
unfolding table_from
table_sizes n c = let h = filled_sizes c (sized n (length c.source)) (stored (length c.source)) in (h.0, h.1)

-- EACH RULE IN ITS PLACE,
pub table_rule : (n : ℕ) (c : Columns) (r : ℕ) → r < stored (length c.source) → rule_of (table_from n c) r ≡ rule_in c r
unfolding table_from
table_rule n c r b =
    filled_rule c (sized n (length c.source)) (stored (length c.source)) r b
    (omega (arith, (stored_within (length c.source) _ refl).1, length-replicate max_m unused_rule))

-- AND EVERY OTHER PLACE UNUSED
pub table_unused : (n : ℕ) (c : Columns) (r : ℕ) → stored (length c.source) ≤ r → rule_of (table_from n c) r ≡ unused_rule
unfolding table_from
table_unused n c r b = filled_other c (sized n (length c.source)) (stored (length c.source)) r b ∙ all_unused max_m r

put_length : (f : ℕ → ℕ) (xs : List ℕ) (m : ℕ) → length (put_to f xs m) ≡ length xs
unfolding put_to
put_length f xs zero = refl
put_length f xs (suc m) = length-set (put_to f xs m) m (f m) ∙ put_length f xs m

-- THE LOWEST m PLACES HOLD THE VALUES,
pub put_value : (f : ℕ → ℕ) (xs : List ℕ) (m r : ℕ) → r < m → m ≤ length xs → get_or (put_to f xs m) r 0 ≡ f r
unfolding put_to
put_value f xs zero r b l = absurd (omega arith)
put_value f xs (suc m) r b l =
    by_cases (ℕ_discrete r m)
    (λ e. rw e (get_or-set_same (put_to f xs m) m (f m) 0 (omega (arith, put_length f xs m))))
    (λ d. get_or-set_other (put_to f xs m) m r (f m) 0 d ∙ put_value f xs m r (omega arith) (omega arith))

-- THE OTHERS WHAT THEY HELD
pub put_rest : (f : ℕ → ℕ) (xs : List ℕ) (m r : ℕ) → m ≤ r → get_or {A = ℕ} (put_to f xs m) r 0 ≡ get_or xs r 0
unfolding put_to
put_rest f xs zero r b = refl
put_rest f xs (suc m) r b = get_or-set_other (put_to f xs m) m r (f m) 0 (λ e. omega arith) ∙ put_rest f xs m r (omega arith)
