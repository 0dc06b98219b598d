-- A table handed in and out as columns of numbers, since C has no value that is known or unknown.
--
--   Columns                the sources, targets and offsets of the rules, their delays, and which of these are known
--   delay_from d k          the delay d, unknown where k is 0
--   rule_in c r             rule r of the columns
--   stored m               how many of m rules a table has places for
--   filled_to c t r         t with the first r rules of the columns in their places
--   table_from n c            the table of n transitions and the rules of the columns
--   short_of, short c       some column has fewer places than that of the sources
--   Handed                  a table handed in, or the number and place of its refusal
--   refused_table, given_table      a table handed in that is refused, and one that is not
--   told_handed x           the same, from the code's own result x
--   columns_of_table n c          what is handed in by columns: refused 8 where one is too short
--   bytes_of s              what is handed in by the bytes s of a rule file
--   delay_in_of d, known_in_of d   the two numbers of a delay
--   put_to f xs r           xs with the first r values of f in its lowest places
--   columns_from t c r      the columns c with the first r rules of t in their lowest places
--   read_into h c           what reading a table into columns hands back, with the columns after it
use Rattle.std.specs.Prelude.{ℕ, zero, suc, Bool, true, List, Result, Ok, Err, ltb, length, get_or, set}
use Rattle.table.specs.Limits.{max_m}
use Rattle.table.specs.Form.{empty_table, sized, with_rule, rule_of}
use Rattle.table.specs.declared.Delay.{Delay}
use Rattle.table.specs.declared.Delay.TheVariants.{Known, Unknown}
use Rattle.table.specs.declared.Rule.{Rule}
use Rattle.table.specs.declared.Table.{Table}
use Rattle.refusals.specs.declared.Refusal.{Refusal}
use Rattle.refusals.specs.Number.{number_of}
use Rattle.sevens.specs.Sevens.{pick}
use Rattle.rulefile.specs.declared.FileRead.{FileRead}
use Rattle.rulefile.specs.File.{read_of}
use Rattle.handed.specs.declared.PeriodTable.{PeriodTable}

-- the five columns, one place for each rule
pub record Columns : Type 0 where
  pub source : List ℕ
  pub target : List ℕ
  pub offset : List ℕ
  pub delay : List ℕ
  pub known : List ℕ

abbrev pub columns : List ℕ → List ℕ → List ℕ → List ℕ → List ℕ → Columns
columns s t o d k = record { source = s; target = t; offset = o; delay = d; known = k }

-- a delay is unknown where 0 stands in the column that says so, whatever stands in the other
abbrev pub delay_from : ℕ → ℕ → Delay
delay_from d zero = Unknown
delay_from d (suc k) = Known d

-- a rule from the numbers of its five places
abbrev pub rule_from_of : ℕ → ℕ → ℕ → ℕ → ℕ → Rule
rule_from_of s t o d k = record { source = s; target = t; offset = o; delay = delay_from d k }

-- rule r of the columns
abbrev pub rule_in : Columns → ℕ → Rule
rule_in c r = rule_from_of (get_or c.source r 0) (get_or c.target r 0) (get_or c.offset r 0) (get_or c.delay r 0) (get_or c.known r 0)

-- a table has places for max_m rules; one with more is outside its limits, and the rest is not looked at
abbrev pub stored : ℕ → ℕ
stored m = pick (ltb max_m m) max_m m

-- t with the first r rules of the columns in their places
unfoldable pub filled_to : Columns → Table → ℕ → Table
filled_to c t zero = t
filled_to c t (suc r) = with_rule (filled_to c t r) r (rule_in c r)

-- n transitions and as many rules as there are sources
unfoldable pub table_from : ℕ → Columns → Table
table_from n c = filled_to c (sized n (length c.source)) (stored (length c.source))

-- some column is shorter than that of the sources, given the lengths of all five
abbrev pub short_of : ℕ → ℕ → ℕ → ℕ → ℕ → Bool
short_of m t o d k = pick (ltb t m) true (pick (ltb o m) true (pick (ltb d m) true (ltb k m)))

abbrev pub short : Columns → Bool
short c = short_of (length c.source) (length c.target) (length c.offset) (length c.delay) (length c.known)

-- a table handed in: a refusal, its place and the empty table; or 0, 0 and the table
pub record Handed : Type 0 where
  pub refusal : ℕ
  pub place : ℕ
  pub table : Table

-- a table that is refused before anything is asked of it, and one that is not
abbrev pub refused_table : ℕ → ℕ → Handed
refused_table number place = record { refusal = number; place = place; table = empty_table }

abbrev pub given_table : Table → Handed
given_table t = record { refusal = 0; place = 0; table = t }

-- what the code hands back of a table handed in
abbrev pub told_handed : Result Table Refusal → Handed
told_handed (Ok t) = given_table t
told_handed (Err e) = refused_table (number_of e.why) e.place

-- columns of which one is too short are refused 8 with the length needed
unfoldable pub columns_of_table : ℕ → Columns → Handed
columns_of_table n c = pick (short c) (refused_table 8 (length c.source)) (given_table (table_from n c))

-- what a file is read as
abbrev pub handed_by : FileRead → Handed
handed_by x = record { refusal = x.refusal; place = x.place; table = x.table }

-- the bytes of a rule file hand in what reading them gives
abbrev pub bytes_of : List ℕ → Handed
bytes_of s = handed_by (read_of s)

-- Columns of a table -----------------------------------------------------------------------------------------------------------

-- the number in the column of delays: 0 for one that is unknown
abbrev pub delay_in_of : Delay → ℕ
delay_in_of Unknown = 0
delay_in_of (Known d) = d

-- the number in the column that says which are known
abbrev pub known_in_of : Delay → ℕ
known_in_of Unknown = 0
known_in_of (Known d) = 1

-- xs with f 0 to f (r - 1) in its lowest places, and the rest as it was
unfoldable pub put_to : (ℕ → ℕ) → List ℕ → ℕ → List ℕ
put_to f xs zero = xs
put_to f xs (suc r) = set (put_to f xs r) r (f r)

-- the columns with the first r rules of t in their lowest places, and the rest as it was
abbrev pub columns_from : Table → Columns → ℕ → Columns
columns_from t c r =
    columns
    (put_to (λ k. (rule_of t k).source) c.source r)
    (put_to (λ k. (rule_of t k).target) c.target r)
    (put_to (λ k. (rule_of t k).offset) c.offset r)
    (put_to (λ k. delay_in_of (rule_of t k).delay) c.delay r)
    (put_to (λ k. known_in_of (rule_of t k).delay) c.known r)

-- what reading into columns hands back, with the columns after it
pub record ReadColumns : Type 0 where
  pub result : PeriodTable
  pub after : Columns

abbrev pub read_as : PeriodTable → Columns → ReadColumns
read_as r c = record { result = r; after = c }

abbrev pub refused_columns : ℕ → ℕ → PeriodTable
refused_columns number place = record { refusal = number; place = place; n = 0; m = 0 }

abbrev pub sizes_of : Table → PeriodTable
sizes_of t = record { refusal = 0; place = 0; n = t.n; m = t.m }

-- some column has fewer than m places
abbrev pub short_for : ℕ → Columns → Bool
short_for m c = pick (ltb (length c.source) m) true (short_of m (length c.target) (length c.offset) (length c.delay) (length c.known))

-- a file that is refused comes first, then a column that is too short, with the length needed; neither changes a column
unfoldable pub read_into : Handed → Columns → ReadColumns
read_into h c =
    pick (ltb 0 h.refusal) (read_as (refused_columns h.refusal h.place) c)
    (pick (short_for h.table.m c) (read_as (refused_columns 8 h.table.m) c)
    (read_as (sizes_of h.table) (columns_from h.table c h.table.m)))
