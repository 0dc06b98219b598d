-- `rates_text::all_rates` meets its contract. The loop's invariant: the rates of the transitions passed. Assumes nothing.
use Rattle.std.proofs.Common.{ℕ, ◌<◌, ◌≡◌, length, get_or}
use Rattle.rates.specs.Rate.{RateOf}
use Rattle.rates_text.specs.Rates.{no_rate, told_rates}
use Rattle.rates_text.proofs.all_rates.Given as goal

abbrev pub invariant-loop-v : goal.invariant-loop-v
invariant-loop-v l = (length l.all ≡ 256) × ((w : ℕ) → w < l.v → RateOf l.t w (get_or (told_rates l.all) w no_rate))
