-- `handed::from_columns` meets its contract: refused where a column is too short, else the table of the columns. No loop. Assumes nothing.
use Rattle.std.proofs.Common.{sym, ap, ◌∙◌}
use Rattle.refusals.specs.declared.Refusal.{Refusal}
use Rattle.refusals.specs.Number.{number_of}
use Rattle.handed.specs.Columns.{refused_table}
use Rattle.handed.specs.Steps.{columns_short, columns_whole}
use Rattle.handed.proofs.from_columns.Goals as goal

pub returns-then-short : goal.returns-then-short
returns-then-short c = ap (λ (e : Refusal). refused_table (number_of e.why) e.place) c.at.ensures ∙ columns_short _ _ (sym c.short.ensures ∙ c.if-short.true)

pub returns : goal.returns
returns c = columns_whole _ _ _ (sym c.short.ensures ∙ c.if-short.false) c.table.ensures
