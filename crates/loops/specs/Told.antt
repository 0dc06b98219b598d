-- What is told of a loop that was found, or of none: its length, 0 where there is none, the transition that it is read from, and its rules.
use Rattle.std.specs.Prelude.{List, [], ℕ, Option, Some, None}
use Rattle.loops.specs.declared.first.Found.{Found}

abbrev pub len_of : Option Found → ℕ
len_of None = 0
len_of (Some f) = f.len

abbrev pub at_of : Option Found → ℕ
at_of None = 0
at_of (Some f) = f.at

abbrev pub rules_of : Option Found → List ℕ
rules_of None = []
rules_of (Some f) = f.rules
