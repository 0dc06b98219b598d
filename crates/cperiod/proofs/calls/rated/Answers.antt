-- `calls::rated` meets its contract: a refusal of what was handed in is handed on. No loop. Assumes nothing.
use Rattle.std.proofs.Common.{refl, arith}
use Rattle.refusals.specs.Number.{number_of, number_positive}
use Rattle.rates.specs.Rate.{refused_rate}
use Rattle.cperiod.proofs.calls.rated.Goals as goal

pub returns-in-Err : goal.returns-in-Err
returns-in-Err c =
    let e = c.in-Err.e in
    rw c.in-Err.is
    (record { rate = refused_rate (number_of e.why) e.place; result = refl; asked = record { refused = λ l. refl; answered = λ z. absurd (omega (arith, z, number_positive e.why)) } })
