-- `text::lines::period_line` meets its contract: by whether the period is exact. No loop. Assumes nothing.
use Rattle.text.proofs.lines.period_line.Goals as goal

pub returns-then-a : goal.returns-then-a
returns-then-a c = rw c.if-a.true c.exact_line.ensures

pub returns : goal.returns
returns c = rw c.if-a.false c.range_line.ensures
