-- `search::raise` meets its contract, on the way that stores and on the one that leaves all as it is.
-- Assumes nothing.
use Rattle.std.proofs.Common.{refl, true≢false, arith}
use mathlib.Core.Bool.{false≢true}
use Rattle.search.proofs.raise.Goals as goal

pub returns-then-asked-x : goal.returns-then-asked-x
returns-then-asked-x c = rw (← c.from-from.ensures, ← c.from-to.ensures, ← c.from.ensures, ← c.from-2.ensures) (record { raised = λ e. absurd (false≢true e); kept = λ e. (omega arith, refl, refl) })

pub returns : goal.returns
returns c = rw (← c.from-from.ensures, ← c.from-to.ensures, ← c.from.ensures, ← c.from-2.ensures) (record { raised = λ e. (omega arith, refl, refl); kept = λ e. absurd (true≢false e) })
