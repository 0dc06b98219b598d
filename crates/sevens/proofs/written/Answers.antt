-- `sevens::written` meets its contract.
-- No byte is Cut, a first byte below 128 is the number; the rest is `several`'s.
-- Assumes nothing.
use Rattle.std.proofs.Common.{sym, arith}
use Rattle.sevens.specs.Steps.{raw_none, raw_one}
use Rattle.sevens.proofs.written.Goals as goal

pub returns-in-empty : goal.returns-in-empty
returns-in-empty c = sym (raw_none c.args.groups c.args.bytes.now (omega arith))

pub returns-in-len1-up : goal.returns-in-len1-up
returns-in-len1-up c =
    sym (raw_one c.args.groups c.from.result c.args.bytes.now (omega arith))
