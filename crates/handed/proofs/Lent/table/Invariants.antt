-- `handed::Lent::table` meets its contract. The loop's invariant: the rules below r stand in their places. Assumes nothing.
use Rattle.std.proofs.Common.{◌≡◌, length}
use Rattle.handed.specs.Columns.{columns, filled_to}
use Rattle.table.specs.Form.{sized}
use Rattle.handed.proofs.Lent.table.Given as goal

abbrev pub invariant-loop-r : goal.invariant-loop-r
invariant-loop-r l =
    (l.t ≡ filled_to (columns l.self.source.now l.self.target.now l.self.offset.now l.self.delay.now l.self.known.now) (sized l.n (length l.self.source.now)) l.r)
