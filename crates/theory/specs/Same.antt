-- Delays, and ranges of delays, that agree below the last rule give the same answers: nobody looks past it.
--
--   period_same, reported_same, schedule_same, answers_same
use Rattle.std.specs.Prelude.{◌≡◌, refl, List, [], ◌∷◌, ℕ, ◌*◌, ◌<◌}
use Rattle.std.proofs.Common.{ap, arith}
use Rattle.model.specs.Shape.{Shape}
use Rattle.model.specs.Sums.{delays}
use Rattle.model.specs.Walk.{Walk}
use Rattle.model.specs.Loop.{Loop}
use Rattle.model.specs.Period.{Attains, Period}
use Rattle.model.specs.Schedule.{LeastSchedule}
use Rattle.model.specs.Reported.{Reported}
use Rattle.model.specs.Filling.{Ranges, Filling}
use Rattle.model.specs.Ends.{Measure, LowEnd, HighEnd, Range, RangeOf}
use Rattle.model.specs.Answer.{Answer, Answers}

module _ (S : Shape) (D E : ℕ → ℕ) (same : (r : ℕ) → r < S.rules → D r ≡ E r) where
  delays_same : (u w : ℕ) (rs : List ℕ) → Walk S u w rs → delays D rs ≡ delays E rs
  delays_same u w [] h = refl
  delays_same u w (r ∷ rs) h = omega (arith, same r h.0, delays_same (S.target r) w rs h.2)

  attains_same : (P Q u : ℕ) (rs : List ℕ) → Loop S u rs → Attains S D P Q rs → Attains S E P Q rs
  attains_same P Q u rs l a = omega (arith, a, ap (λ x. Q * x) (delays_same u u rs l.closed))

  attains_back : (P Q u : ℕ) (rs : List ℕ) → Loop S u rs → Attains S E P Q rs → Attains S D P Q rs
  attains_back P Q u rs l a = omega (arith, a, ap (λ x. Q * x) (delays_same u u rs l.closed))

  pub period_same : (P Q : ℕ) → Period S D P Q → Period S E P Q
  period_same P Q p =
      record {
        q_pos = p.q_pos;
        at = p.at;
        loop = p.loop;
        is_loop = p.is_loop;
        turns = p.turns;
        attained = attains_same P Q p.at p.loop p.is_loop p.attained;
        highest = λ u rs l. omega (arith, p.highest u rs l, ap (λ x. Q * x) (delays_same u u rs l.closed));
      }

  pub reported_same : (P Q u : ℕ) (rs : List ℕ) → Reported S D P Q u rs → Reported S E P Q u rs
  reported_same P Q u rs r =
      record {
        is_loop = r.is_loop;
        attains = attains_same P Q u rs r.is_loop r.attains;
        lowest = λ w qs l a. r.lowest w qs l (attains_back P Q w qs l a);
        fewest = λ qs l a. r.fewest qs l (attains_back P Q u qs l a);
        first = λ qs l a. r.first qs l (attains_back P Q u qs l a);
      }

  pub schedule_same : (n P Q : ℕ) (X : List ℕ) → LeastSchedule S D n P Q X → LeastSchedule S E n P Q X
  schedule_same n P Q X x =
      record {
        is_schedule = record { size = x.is_schedule.size; keeps = λ r b. omega (arith, x.is_schedule.keeps r b, ap (λ y. Q * y) (same r b)) };
        least = λ Y y v b. x.least Y (record { size = y.size; keeps = λ r c. omega (arith, y.keeps r c, ap (λ z. Q * z) (same r c)) }) v b;
      }

module _ (S : Shape) (K K' : Ranges) (least : (r : ℕ) → r < S.rules → K.least r ≡ K'.least r) (greatest : (r : ℕ) → r < S.rules → K.greatest r ≡ K'.greatest r) where
  filling_same : (D : ℕ → ℕ) → Filling S K D → Filling S K' D
  filling_same D f r b = omega (arith, f r b, least r b, greatest r b)

  filling_back : (D : ℕ → ℕ) → Filling S K' D → Filling S K D
  filling_back D f r b = omega (arith, f r b, least r b, greatest r b)

  low_same : (M : Measure) (P Q : ℕ) → LowEnd S K M P Q → LowEnd S K' M P Q
  low_same M P Q x =
      record {
        attained = record { D = x.attained.D; fills = filling_same _ x.attained.fills; given = x.attained.given; lowest = x.attained.lowest };
        least = λ E f. x.least E (filling_back E f);
      }

  high_same : (M : Measure) (P Q : ℕ) → HighEnd S K M P Q → HighEnd S K' M P Q
  high_same M P Q x =
      record {
        attained = record { D = x.attained.D; fills = filling_same _ x.attained.fills; given = x.attained.given; lowest = x.attained.lowest };
        greatest = λ E f. x.greatest E (filling_back E f);
      }

  range_same : (M : Measure) (a : Range) → RangeOf S K M a → RangeOf S K' M a
  range_same M a x = record { low = low_same M _ _ x.low; high = high_same M _ _ x.high; meet = x.meet }

  pub answers_same : (n : ℕ) (a : Answer) → Answers S K n a → Answers S K' n a
  answers_same n a x =
      record {
        ends = range_same (Period S) _ x.ends;
        low_at = x.low_at;
        low_loop = reported_same S K.least K'.least least _ _ _ _ x.low_loop;
        high_at = x.high_at;
        high_loop = reported_same S K.greatest K'.greatest greatest _ _ _ _ x.high_loop;
        schedule = schedule_same S K.greatest K'.greatest greatest n _ _ _ x.schedule;
      }
