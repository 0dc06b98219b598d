-- `rulefile::write` meets its contract: 3; then 8, where there is no room; then the file. No loop. Assumes nothing.
use Rattle.std.proofs.Common.{inl, refl, arith}
use Rattle.rulefile.specs.Steps.{judged_within, wrote}
use Rattle.rulefile.proofs.write.Goals as goal

pub returns : goal.returns
returns c =
    let w = judged_within _ _ c.in_ok-check.ensures (omega arith) in
    wrote _ _ _ _ _ w c.file_length-count.ensures ((λ h. absurd (omega arith)), λ h. refl) (inl (omega arith, c.put_file.ensures))
