-- `text::judged` meets its contract: the analysis is lent 256 places thrice, so that the verdict decides. No loop. Assumes nothing.
use Rattle.std.proofs.Common.{arith, length-take-le}
use Rattle.words.specs.Held.{holds_put}
use Rattle.text.specs.Made.{analysed_answer, analysed_sized}
use Rattle.text.proofs.judged.Goals as goal

pub returns : goal.returns
returns c =
    let a = c.in-Ok.a in
    let sized = analysed_sized _ _ c.in-Ok.ensures (omega arith) in
    let put = c.answer-len.ensures in
    let n = c.args.t.n in
    let lists = c.analyse.new in
    record {
      text = _;
      is_text = analysed_answer _ _ c.in-Ok.ensures (omega arith);
      is_held =
          holds_put _ _ _ put.0
          (omega (
            arith,
            put.1,
            sized.few,
            sized.low_few,
            sized.high_few,
            length-take-le n lists.schedule sized.fits,
            length-take-le a.low.len lists.low sized.low_fits,
            length-take-le a.high.len lists.high sized.high_fits,
          ));
    }
