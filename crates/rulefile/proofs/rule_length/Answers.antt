-- `rulefile::rule_length` meets its contract: the sum of four lengths. No loop. Assumes nothing.
use Rattle.std.proofs.Common.{ap, ◌∙◌, arith}
use Rattle.sevens.specs.Sevens.{code_length_of}
use Rattle.rulefile.specs.File.{rule_bytes, delay_code}
use Rattle.rulefile.specs.Length.{four_length}
use Rattle.rulefile.proofs.rule_length.Goals as goal

pub returns : goal.returns
unfolding rule_bytes
returns c =
    let x = c.args.rule in
    let source = c.length_of.ensures.0 ∙ ap code_length_of c.from.ensures in
    let target = c.length_of-2.ensures.0 ∙ ap code_length_of c.from-2.ensures in
    let offset = c.length_of-3.ensures.0 ∙ ap code_length_of c.from-3.ensures in
    let delay = c.length_of-4.ensures.0 ∙ ap code_length_of c.code_of.ensures in
    omega (arith, source, target, offset, delay, four_length x.source x.target x.offset (delay_code x.delay))
