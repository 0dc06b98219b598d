-- What the parts of the columns that are lent say: the shape, and the delay of each rule.
--
--   of_columns c, of_rules r, of_filled f      the shape that they say
--   of_arcs a                                  the same, whose offsets nobody asks for
--   delays_of f                                   the delay of each rule
use Rattle.std.specs.Prelude.{ℕ, []}
use Rattle.model.specs.Shape.{Shape}
use Rattle.columns.specs.Columns.{shape, delay_at}
use Rattle.columns.specs.declared.Columns.{Columns}
use Rattle.columns.specs.declared.rules.Arcs.{Arcs}
use Rattle.columns.specs.declared.rules.Rules.{Rules}
use Rattle.columns.specs.declared.rules.Filled.{Filled}

abbrev pub of_columns : Columns → Shape
of_columns c = shape c.source c.target c.offset c.m

abbrev pub of_arcs : Arcs → Shape
of_arcs a = shape a.source.now a.target.now [] a.m

abbrev pub of_rules : Rules → Shape
of_rules r = shape r.source.now r.target.now r.offset.now r.m

abbrev pub of_filled : Filled → Shape
of_filled f = shape f.source.now f.target.now f.offset.now f.m

abbrev pub delays_of : Filled → ℕ → ℕ
delays_of f = delay_at f.delay.now
