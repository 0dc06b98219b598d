-- `handed::read` meets its contract: a refusal first, then the columns' lengths, then the rules. No loop. Assumes nothing.
use Rattle.std.proofs.Common.{sym, ap, ◌∙◌, arith}
use Rattle.refusals.specs.declared.Refusal.{Refusal}
use Rattle.refusals.specs.Number.{number_of, number_positive}
use Rattle.handed.specs.Columns.{refused_columns}
use Rattle.handed.specs.Steps.{read_same, read_refused, read_short_source, read_short, read_all}
use Rattle.handed.proofs.read.Goals as goal
use Rattle.handed.proofs.read.Goals.{then-source-t-via-then-source-t, then-source-t-via-else-source-t+then-short}

pub returns-in-Err : goal.returns-in-Err
returns-in-Err c = read_same _ _ _ _ c.in-Err.ensures.0 (read_refused _ _ _ (number_positive _) c.unread.ensures)

pub returns-then-source-t : goal.returns-then-source-t
returns-then-source-t c =
    let r = c.unread-then-source-t.ensures ∙ ap (λ (e : Refusal). refused_columns (number_of e.why) e.place) c.at.ensures in
    read_same _ _ _ _ c.in-Ok.ensures.0 (elim c.then-source-t.branch [
      | then-source-t-via-then-source-t w ↦ read_short_source _ _ _ (omega arith) w.if-source-t.true r
      | then-source-t-via-else-source-t+then-short w ↦ read_short _ _ _ (omega arith) w.if-source-t.false (sym w.short.ensures ∙ w.if-short.true) r
    ])

pub returns : goal.returns
returns c = read_same _ _ _ _ c.in-Ok.ensures.0 (read_all _ _ _ (omega arith) c.if-source-t.false (sym c.short.ensures ∙ c.if-short.false) c.put_columns.ensures)
