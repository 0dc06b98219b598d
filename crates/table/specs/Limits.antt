-- The limits of a table, each once and by name.
--
--   min_n, max_n                       lowest and highest count of transitions
--   max_m                             highest count of rules, and the places that a table has for them
--   max_offset                        highest offset
--   max_delay                         highest known delay
--   min_occurrences, max_occurrences   lowest and highest count of occurrences simulated
--
-- The lowest m, source, target, offset and known delay are 0. The code's constants of the same names are tied to these by `limits` of src/lib.rt.
use Rattle.std.specs.Prelude.{ℕ}

-- a table has at least one transition
abbrev pub min_n : ℕ
min_n = 1

-- and at most this many
abbrev pub max_n : ℕ
max_n = 256

-- a table has at most this many rules
abbrev pub max_m : ℕ
max_m = 2048

-- an offset is at most this
abbrev pub max_offset : ℕ
max_offset = 15

-- a known delay is at most this
abbrev pub max_delay : ℕ
max_delay = 1000000

-- at least one occurrence is simulated
abbrev pub min_occurrences : ℕ
min_occurrences = 1

-- and at most this many
abbrev pub max_occurrences : ℕ
max_occurrences = 1024
