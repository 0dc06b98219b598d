-- Rules of which nothing but their two ends is asked.
--
--   plain source target len   == the shape that two columns say, whose offsets nobody asks for
--   limits_back               the rules turned round are within the same limits
use Rattle.std.specs.Prelude.{List, [], ℕ}
use Rattle.std.proofs.Common.{arith}
use Rattle.model.specs.Shape.{Shape}
use Rattle.columns.specs.Columns.{shape, Limits}

-- the shape that two columns say, whose offsets nobody asks for
abbrev pub plain : List ℕ → List ℕ → ℕ → Shape
plain source target len = shape source target [] len

pub limits_back : (from to : List ℕ) (len n : ℕ) → Limits from to [] len n → Limits to from [] len n
limits_back from to len n l =
    record {
      few_rules = l.few_rules;
      some_transition = l.some_transition;
      few_transitions = l.few_transitions;
      fits = λ r b. let f = l.fits r b in (f.1, f.0);
      small_offsets = λ r b. omega arith;
    }
