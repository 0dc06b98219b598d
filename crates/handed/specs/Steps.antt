-- Steps of the proofs.
--
--   stored_most, stored_all, stored_within, stored_min     how many rules are stored
--   filled_next, filled_all            a turn of the loop that builds the table, and its end
--   columns_short, columns_whole       what is handed in
--   put_none, put_next                 the loop that fills the columns: its start, a turn
--   read-...                           the ways out of reading into columns; file_told, read_few: what is read of a file
use Rattle.std.specs.Prelude.{ℕ, ◌+◌, ◌≤◌, ◌<◌, ◌≡◌, true, false, List, length, set, min, Result, Ok, Err, IfOk}
use Rattle.std.proofs.Math.Path.{refl}
use Rattle.std.proofs.Common.{sym, ap, ◌∙◌, subst, arith, add-one}
use Rattle.std.proofs.Math.Logic.{by_cases}
use Rattle.std.proofs.Math.Decide.{dec_lt}
use borrow.Author.Tests.{lt-ltb, le-ltb}
use Rattle.refusals.specs.declared.Refusal.{Refusal}
use Rattle.table.specs.Limits.{max_m}
use Rattle.table.specs.Form.{empty_table, sized, with_rule}
use Rattle.table.specs.declared.Rule.{Rule}
use Rattle.table.specs.declared.Table.{Table}
use Rattle.rulefile.specs.declared.FileRead.{FileRead}
use Rattle.rulefile.specs.File.{read_of, told_read}
use Rattle.rulefile.specs.RoundTrip.{read_within}
use Rattle.handed.specs.declared.PeriodTable.{PeriodTable}
use Rattle.handed.specs.Columns.{Columns, rule_in, stored, filled_to, table_from, short_of, short, Handed, refused_table, given_table, told_handed, columns_of_table, handed_by, bytes_of, put_to, columns_from, ReadColumns, read_as, refused_columns, sizes_of, read_into}

-- ---- the table

pub stored_most : (m : ℕ) → max_m < m → max_m ≡ stored m
stored_most m b = rw (lt-ltb max_m m b) refl

pub stored_all : (m : ℕ) → m ≤ max_m → m ≡ stored m
stored_all m b = rw (le-ltb max_m m b) refl

pub stored_within : (m k : ℕ) → k ≡ stored m → (k ≤ m) × (k ≤ max_m)
stored_within m k e =
    by_cases (dec_lt max_m m)
    (λ b. let s = stored_most m b in (omega arith, omega arith))
    (λ b. let s = stored_all m (omega arith) in (omega arith, omega arith))

pub stored_min : (m k : ℕ) → k ≡ min m max_m → k ≡ stored m
stored_min m k e =
    by_cases (dec_lt max_m m)
    (λ b. let s = stored_most m b in omega arith)
    (λ b. let s = stored_all m (omega arith) in omega arith)

-- the empty table, given its n and m
pub sized_is : (n m : ℕ) (t : Table) → t ≡ empty_table → ◌≡◌ {A = Table} (record { n = n; m = m; rules = t.rules }) (sized n m)
sized_is n m t e = cc

pub filled_none : (c : Columns) (b t : Table) → t ≡ b → t ≡ filled_to c b 0
unfolding filled_to
filled_none c b t e = e

-- one rule more
pub filled_next : (c : Columns) (b t : Table) (r : ℕ) (x : Rule) → t ≡ filled_to c b r → x ≡ rule_in c r → with_rule t r x ≡ filled_to c b (r + 1)
unfolding filled_to
filled_next c b t r x e f = rw (add-one r) (ap (λ (u : Table). with_rule u r x) e ∙ ap (with_rule (filled_to c b r) r) f)

pub filled_all : (n : ℕ) (c : Columns) (t : Table) (k r : ℕ) → k ≡ stored (length c.source) → r ≡ k → t ≡ filled_to c (sized n (length c.source)) r → t ≡ table_from n c
unfolding table_from
filled_all n c t k r e f g = g ∙ ap (filled_to c (sized n (length c.source))) (f ∙ e)

-- ---- what is handed in by columns

pub columns_short : (n : ℕ) (c : Columns) → short c ≡ true → refused_table 8 (length c.source) ≡ columns_of_table n c
unfolding columns_of_table
columns_short n c e = rw e refl

pub columns_whole : (n : ℕ) (c : Columns) (t : Table) → short c ≡ false → t ≡ table_from n c → given_table t ≡ columns_of_table n c
unfolding columns_of_table
columns_whole n c t e f = rw e (ap given_table f)

-- ---- columns of a table

pub put_none : (f : ℕ → ℕ) (xs : List ℕ) → xs ≡ put_to f xs 0
unfolding put_to
put_none f xs = refl

pub put_next : (f : ℕ → ℕ) (xs ys : List ℕ) (r v : ℕ) → ys ≡ put_to f xs r → v ≡ f r → set ys r v ≡ put_to f xs (r + 1)
unfolding put_to
put_next f xs ys r v e g = rw (add-one r) (ap (λ (zs : List ℕ). set zs r v) e ∙ ap (set (put_to f xs r) r) g)

-- what is handed in may be told of in another way
pub read_same : (h k : Handed) (c : Columns) (x : ReadColumns) → h ≡ k → read_into h c ≡ x → read_into k c ≡ x
read_same h k c x e f = ap (λ (y : Handed). read_into y c) (sym e) ∙ f

-- the ways out of reading into columns
module _ (h : Handed) (c : Columns) (r : PeriodTable) where
  pub read_refused : 0 < h.refusal → r ≡ refused_columns h.refusal h.place → read_into h c ≡ read_as r c
  unfolding read_into
  read_refused b e = rw (lt-ltb 0 h.refusal b, e) refl

  pub read_short_source : h.refusal ≤ 0 → length c.source < h.table.m → r ≡ refused_columns 8 h.table.m → read_into h c ≡ read_as r c
  unfolding read_into
  read_short_source b l e = rw (le-ltb 0 h.refusal b, lt-ltb (length c.source) h.table.m l, e) refl

  pub read_short : h.refusal ≤ 0 → h.table.m ≤ length c.source
      → short_of h.table.m (length c.target) (length c.offset) (length c.delay) (length c.known) ≡ true → r ≡ refused_columns 8 h.table.m → read_into h c ≡ read_as r c
  unfolding read_into
  read_short b l s e = rw (le-ltb 0 h.refusal b, le-ltb (length c.source) h.table.m l, s, e) refl

pub read_all : (h : Handed) (c k : Columns) → h.refusal ≤ 0 → h.table.m ≤ length c.source
    → short_of h.table.m (length c.target) (length c.offset) (length c.delay) (length c.known) ≡ false → k ≡ columns_from h.table c h.table.m
    → read_into h c ≡ read_as (sizes_of h.table) k
unfolding read_into
read_all h c k b l s e = rw (le-ltb 0 h.refusal b, le-ltb (length c.source) h.table.m l, s) (ap (read_as (sizes_of h.table)) (sym e))

-- ---- a file

-- what is read of a file is what is handed in by it
pub file_told : (s : List ℕ) (x : Result Table Refusal) → told_read x ≡ read_of s → told_handed x ≡ bytes_of s
file_told s (Ok t) e = ap handed_by e
file_told s (Err r) e = ap handed_by e

-- a file that is read has no more rules than a table has places
pub read_few : (s : List ℕ) (x : Result Table Refusal) → told_read x ≡ read_of s → IfOk x (λ t. t.m ≤ max_m)
read_few s (Ok t) e = subst (λ (y : FileRead). y.refusal ≡ 0 → y.table.m ≤ max_m) (sym e) (λ z. (read_within s z).m_high) refl
read_few s (Err r) e = tt
