-- DEMAND 1 FOR READING INTO COLUMNS, a call that C has: that it comes back with one outcome is its equation, `read_into` (crate handed).
--
--   columns_refused    a reading into columns refused: number and place, sizes 0, and the five columns as they were lent
use Rattle.std.specs.Prelude.{◌≡◌, refl, ◌<◌, ltb}
use Rattle.std.proofs.Common.{arith}
use Rattle.handed.specs.Columns.{Handed}
use Rattle.handed.specs.Columns.{Columns, ReadColumns, read_as, refused_columns, read_into, short_for}
use Rattle.demands.specs.Reading.{picked}

abbrev OnlyColumns : Columns → ReadColumns → Type 0
OnlyColumns c x = 0 < x.result.refusal → x ≡ read_as (refused_columns x.result.refusal x.result.place) c

-- A READING INTO COLUMNS REFUSED: number and place, sizes 0, and the five columns as they were lent
pub columns_refused : (h : Handed) (c : Columns) → 0 < (read_into h c).result.refusal
    → read_into h c ≡ read_as (refused_columns (read_into h c).result.refusal (read_into h c).result.place) c
unfolding read_into
columns_refused h c =
    picked (OnlyColumns c) (ltb 0 h.refusal) _ _ (λ l. refl) (picked (OnlyColumns c) (short_for h.table.m c) _ _ (λ l. refl) (λ l. absurd (omega arith)))
