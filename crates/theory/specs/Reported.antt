-- The reported loop is the first loop of tight rules: there is one, and only one.
--
--   first_reported     the first loop of rules that are tight at a schedule is the reported loop
--   reported_unique, reported_exists    there is just one
--   reported_visits    it starts at the lowest transition that any loop that attains the period visits, wherever that loop is read from
use Rattle.std.specs.Prelude.{◌≡◌, List, ◌∷◌, ◌++◌, ℕ, ◌*◌, ◌≤◌, length}
use Rattle.std.proofs.Common.{sym, ap, ◌∙◌, ⊎_elim, le_antisymm}
use Rattle.std.proofs.Math.Decide.{ℕ_discrete}
use Rattle.model.specs.Shape.{Shape, Fits}
use Rattle.model.specs.Loop.{Loop}
use Rattle.model.specs.Period.{Attains, Period}
use Rattle.model.specs.Schedule.{Keeps}
use Rattle.model.specs.Reported.{Reported}
use Rattle.theory.specs.Loop.{turned, turned_offsets, turned_delays}
use Rattle.theory.specs.Schedule.{TightRule, attaining_of_rules, rules_of_attaining}
use Rattle.theory.specs.First.{order_unique, KindLoop, FirstLoop, none_or_first_loop}

-- with any schedule X at the period
module _ (S : Shape) (D : ℕ → ℕ) (P Q : ℕ) (X : List ℕ) (keeps : Keeps S D P Q X) where
  -- to attain the period is to have tight rules
  kind_of : (u : ℕ) (rs : List ℕ) → Loop S u rs → Attains S D P Q rs → KindLoop S (TightRule S D P Q X) u rs
  kind_of u rs l t = record { is_loop = l; kind = rules_of_attaining S D P Q X keeps u rs l.closed t }

  attains_of : (u : ℕ) (rs : List ℕ) → KindLoop S (TightRule S D P Q X) u rs → Attains S D P Q rs
  attains_of u rs l = attaining_of_rules S D P Q X keeps u rs l.is_loop.closed l.kind

  pub first_reported : (u : ℕ) (rs : List ℕ) → FirstLoop S (TightRule S D P Q X) u rs → Reported S D P Q u rs
  first_reported u rs f =
      record {
        is_loop = f.is_one.is_loop;
        attains = attains_of u rs f.is_one;
        lowest = λ w qs l t. f.lowest w qs (kind_of w qs l t);
        fewest = λ qs l t. f.fewest qs (kind_of u qs l t);
        first = λ qs l t. f.first qs (kind_of u qs l t);
      }

  -- THERE IS ONE
  pub reported_exists : (n : ℕ) → Fits S n → Period S D P Q → (u : ℕ) × (rs : List ℕ) × Reported S D P Q u rs
  reported_exists n fits p =
      ⊎_elim
      (λ none. absurd (none p.at p.loop (kind_of p.at p.loop p.is_loop p.attained)))
      (λ f. (f.0, f.1, first_reported f.0 f.1 f.2))
      (none_or_first_loop S (TightRule S D P Q X) (λ r. ℕ_discrete _ _) n fits)

-- ONLY ONE
pub reported_unique : (S : Shape) (D : ℕ → ℕ) (P Q u w : ℕ) (rs qs : List ℕ) → Reported S D P Q u rs → Reported S D P Q w qs → (u ≡ w) × (rs ≡ qs)
reported_unique S D P Q u w rs qs a b = (same, order_unique rs qs (a.first qs at_u b.attains (sym lengths)) (b.first rs at_w a.attains lengths))
  where
    same : u ≡ w
    same = le_antisymm (a.lowest w qs b.is_loop b.attains) (b.lowest u rs a.is_loop a.attains)

    at_u : Loop S u qs
    at_u = rw same b.is_loop

    at_w : Loop S w rs
    at_w = rw (← same) a.is_loop

    lengths : length rs ≡ length qs
    lengths = le_antisymm (a.fewest qs at_u b.attains) (b.fewest rs at_w a.attains)

-- WHERE IT STARTS AND WHAT IS VISITED COME TO THE SAME: a loop can be read from each of its transitions
pub reported_visits : (S : Shape) (D : ℕ → ℕ) (P Q u : ℕ) (rs : List ℕ) → Reported S D P Q u rs → (w : ℕ) (front : List ℕ) (s : ℕ) (back : List ℕ)
    → Loop S w (front ++ (s ∷ back)) → Attains S D P Q (front ++ (s ∷ back)) → u ≤ S.source s
reported_visits S D P Q u rs R w front s back l t =
    R.lowest (S.source s) ((s ∷ back) ++ front) (turned S w front s back l)
    (ap (λ x. Q * x) (turned_delays S w front s back D) ∙ t ∙ ap (λ x. P * x) (sym (turned_offsets S w front s back)))
