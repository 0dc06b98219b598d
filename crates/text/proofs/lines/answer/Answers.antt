-- `text::lines::answer` meets its contract: its four lines one after the other. No loop. Assumes nothing.
use Rattle.std.proofs.Common.{arith}
use Rattle.words.specs.Puts.{puts_then}
use Rattle.text.proofs.lines.answer.Goals as goal

pub returns : goal.returns
returns c =
    let period = c.period_line-b.ensures in
    let low = c.loop_line-c.ensures in
    let high = c.loop_line-d.ensures in
    let schedule = c.schedule_line.ensures in
    (puts_then period.0 (puts_then low.0 (puts_then high.0 schedule.0)), omega (arith, period.1, low.1, high.1, schedule.1))
