-- `rates_text::line::members` meets its contract: a loop over all transitions.
-- Invariant: those passed that share the rate are put, in at most 21 bytes each. Assumes nothing.
use Rattle.std.proofs.Common.{◌+◌, ◌*◌, ◌≤◌}
use Rattle.words.specs.Decimal.{numbers}
use Rattle.words.specs.Puts.{Puts}
use Rattle.rates_text.specs.Rates.{told_rates, members_to}
use Rattle.rates_text.proofs.line.members.Given as goal

abbrev pub invariant-loop-k : goal.invariant-loop-k
invariant-loop-k l = Puts (numbers (members_to (told_rates l.rates) l.n l.v l.k)) l.initial.out l.at l.out l.next × (l.next ≤ l.at + 21 * l.k)
