-- The whole answer of an analysis.
--
--   Answer          == the two ends, whether they meet, the two loops, the schedule
--   Answers S K n a == a is the answer for the rules S of n transitions, whose delays may be what K says
use Rattle.std.specs.Prelude.{List, ℕ}
use Rattle.model.specs.Shape.{Shape}
use Rattle.model.specs.Filling.{Ranges}
use Rattle.model.specs.Period.{Period}
use Rattle.model.specs.Ends.{Range, RangeOf}
use Rattle.model.specs.Schedule.{LeastSchedule}
use Rattle.model.specs.Reported.{Reported}

pub record Answer : Type 0 where
  pub ends : Range
  pub low_loop : List ℕ
  pub high_loop : List ℕ
  pub schedule : List ℕ

-- the low loop is the reported loop with every delay at its least, the high loop with every delay at its greatest; so is the schedule
pub record Answers (S : Shape) (K : Ranges) (n : ℕ) (a : Answer) : Type 0 where
  pub ends : RangeOf S K (Period S) a.ends
  pub low_at : ℕ
  pub low_loop : Reported S K.least a.ends.low_p a.ends.low_q low_at a.low_loop
  pub high_at : ℕ
  pub high_loop : Reported S K.greatest a.ends.high_p a.ends.high_q high_at a.high_loop
  pub schedule : LeastSchedule S K.greatest n a.ends.high_p a.ends.high_q a.schedule
