-- The search for the least schedule at P/Q, as a program does it: rule after rule raises its target to what it asks, and is then its parent. Values only
-- rise and stay below every schedule, in whatever order; after k passes over all rules they have reached the weight of every walk of k rules.
--
--   Raised S D P Q c k X par             == the values X and parents par after k passes over all rules, and some others; no value is above c
--   Passing S D P Q A c X₀ X par Done j  == rules in some order, from X₀, where no value was above c: j of them have asked, and those that are Done
--   raised_start, raised_most, passing_start, passing_raise, passing_leave, passing_skip, passing_carried, passing_end      what each step does to them
--   settled                              a pass over all rules that raised nothing leaves a schedule
use Rattle.std.specs.Prelude.{◌≡◌, ◌⊎◌, List, [], ◌∷◌, ℕ, suc, ◌+◌, ◌*◌, ◌≤◌, ◌<◌, length, get_or, set, replicate}
use Rattle.std.proofs.Common.{ap, ⊎_elim, arith, mul-le-mul_left, length-append, get_or-set_same, get_or-set_other}
use Rattle.std.proofs.Math.Logic.{by_cases}
use Rattle.std.proofs.Math.Decide.{ℕ_discrete}
use Rattle.model.specs.Shape.{Shape}
use Rattle.model.specs.Sums.{delays, offsets}
use Rattle.model.specs.Walk.{Walk}
use Rattle.model.specs.Schedule.{Keeps}
use Rattle.theory.specs.Sums.{delays_append, offsets_append}
use Rattle.theory.specs.Walk.{walk_last}
use Rattle.theory.specs.Relax.{Below, zeros_at}
use Rattle.theory.specs.Parents.{asks, Sound, sound_start, sound_raise}

module _ (S : Shape) (D : ℕ → ℕ) (P Q : ℕ) where
  pub record Raised (c k : ℕ) (X par : List ℕ) : Type 0 where
    pub sound : Sound S D P Q X par
    pub least : (Y : List ℕ) → Keeps S D P Q Y → Below X Y
    pub reach : (u w : ℕ) (rs : List ℕ) → length rs ≤ k → Walk S u w rs → Q * delays D rs ≤ get_or X w 0 + P * offsets S rs
    pub most : (v : ℕ) → get_or X v 0 ≤ c

  -- zeros, with no parent
  pub raised_start : (n : ℕ) → Raised 0 0 (replicate n 0) (replicate n 0)
  raised_start n =
      record {
        sound = sound_start S D P Q n;
        least = λ Y y v. omega (arith, zeros_at n v);
        reach = none;
        most = λ v. omega (arith, zeros_at n v);
      }
    where
      none : (u w : ℕ) (rs : List ℕ) → length rs ≤ 0 → Walk S u w rs → Q * delays D rs ≤ get_or {A = ℕ} (replicate n 0) w 0 + P * offsets S rs
      none u w [] b h = omega arith
      none u w (r ∷ rs) b h = absurd (omega arith)

  pub raised_most : {c c' k : ℕ} {X par : List ℕ} → c ≤ c' → Raised c k X par → Raised c' k X par
  raised_most b h = record { sound = h.sound; least = h.least; reach = h.reach; most = λ v. omega (arith, h.most v) }

  pub record Passing (A c : ℕ) (X₀ X par : List ℕ) (Done : ℕ → Type 0) (j : ℕ) : Type 0 where
    pub sound : Sound S D P Q X par
    pub least : (Y : List ℕ) → Keeps S D P Q Y → Below X Y
    pub up : Below X₀ X
    pub asked : (r : ℕ) → Done r → get_or X₀ (S.source r) 0 + Q * D r ≤ get_or X (S.target r) 0 + P * S.offset r
    pub most : (v : ℕ) → get_or X v 0 ≤ c + j * (Q * A)

  pub passing_start : (A c k : ℕ) (X par : List ℕ) (Done : ℕ → Type 0) → ((r : ℕ) → ¬ (Done r)) → Raised c k X par → Passing A c X X par Done 0
  passing_start A c k X par Done none h =
      record { sound = h.sound; least = h.least; up = λ v. omega arith; asked = λ r d. absurd (none r d); most = λ v. omega (arith, h.most v) }

  -- rule i asks: those that are done then are i and those that were
  module _ (A c : ℕ) (X₀ X par : List ℕ) (Done Done' : ℕ → Type 0) (i j : ℕ) (h : Passing A c X₀ X par Done j) (is_rule : i < S.rules)
      (which : (r : ℕ) → Done' r → (r ≡ i) ⊎ Done r) where
    -- a rule that asks for no more leaves all as it is
    pub passing_leave : get_or X (S.source i) 0 + Q * D i ≤ get_or X (S.target i) 0 + P * S.offset i → Passing A c X₀ X par Done' (suc j)
    passing_leave l =
        record {
          sound = h.sound;
          least = h.least;
          up = h.up;
          asked = λ r d. ⊎_elim (λ e. rw e (omega (arith, h.up (S.source i)))) (h.asked r) (which r d);
          most = λ v. omega (arith, h.most v);
        }

    -- one that asks for more raises its target, and is its parent
    pub passing_raise : S.target i < length X → S.target i < length par → D i ≤ A → get_or X (S.target i) 0 + P * S.offset i < get_or X (S.source i) 0 + Q * D i
        → Passing A c X₀ (set X (S.target i) (asks S D P Q X i)) (set par (S.target i) (suc i)) Done' (suc j)
    passing_raise in_x in_par small l =
        record {
          sound = sound_raise S D P Q X par h.sound i is_rule in_x in_par (omega arith);
          least = λ Y y v. at v (λ x. x ≤ get_or Y v 0) (λ e. rw e (omega (arith, y i is_rule, h.least Y y (S.source i)))) (h.least Y y v);
          up = λ v. at v (λ x. get_or X₀ v 0 ≤ x) (λ e. rw e (omega (arith, h.up (S.target i)))) (h.up v);
          asked = λ r d. ⊎_elim here (λ o. there r (h.asked r o)) (which r d);
          most = λ v. at v (λ x. x ≤ c + suc j * (Q * A)) (λ e. omega (arith, h.most (S.source i), mul-le-mul_left Q small)) (omega (arith, h.most v));
        }
      where
        -- a fact of the target's new value and of the old ones is a fact of each new one
        at : (v : ℕ) (C : ℕ → Type 0) → (v ≡ S.target i → C (asks S D P Q X i)) → C (get_or X v 0) → C (get_or (set X (S.target i) (asks S D P Q X i)) v 0)
        at v C new old =
            by_cases (ℕ_discrete v (S.target i))
            (λ e. rw (e, get_or-set_same X (S.target i) (asks S D P Q X i) 0 in_x) (new e))
            (λ d. rw (get_or-set_other X (S.target i) v (asks S D P Q X i) 0 d) old)

        here : {r : ℕ} → r ≡ i → get_or X₀ (S.source r) 0 + Q * D r ≤ get_or (set X (S.target i) (asks S D P Q X i)) (S.target r) 0 + P * S.offset r
        here e = rw e (omega (arith, h.up (S.source i), get_or-set_same X (S.target i) (asks S D P Q X i) 0 in_x))

        there : (r : ℕ) → get_or X₀ (S.source r) 0 + Q * D r ≤ get_or X (S.target r) 0 + P * S.offset r
            → get_or X₀ (S.source r) 0 + Q * D r ≤ get_or (set X (S.target i) (asks S D P Q X i)) (S.target r) 0 + P * S.offset r
        there r a = at (S.target r) (λ x. get_or X₀ (S.source r) 0 + Q * D r ≤ x + P * S.offset r) (λ e. omega (arith, ap (λ v. get_or X v 0) e)) a

  -- a turn at which no rule asks
  pub passing_skip : (A c j : ℕ) (X₀ X par : List ℕ) (Done : ℕ → Type 0) → Passing A c X₀ X par Done j → Passing A c X₀ X par Done (suc j)
  passing_skip A c j X₀ X par Done h = record { sound = h.sound; least = h.least; up = h.up; asked = h.asked; most = λ v. omega (arith, h.most v) }

  -- some rules, in any order: what was reached stays reached
  pub passing_carried : (A c k j : ℕ) (X₀ X par₀ par : List ℕ) (Done : ℕ → Type 0) → Raised c k X₀ par₀ → Passing A c X₀ X par Done j → Raised (c + j * (Q * A)) k X par
  passing_carried A c k j X₀ X par₀ par Done h e =
      record { sound = e.sound; least = e.least; reach = λ u w rs b walk. omega (arith, h.reach u w rs b walk, e.up w); most = e.most }

  -- A PASS REACHES ONE RULE FURTHER: a walk of k + 1 rules is one of k rules and a last rule, whose target is raised to what it asks
  pub passing_end : (A c k j : ℕ) (X₀ X par₀ par : List ℕ) (Done : ℕ → Type 0) → Raised c k X₀ par₀ → ((r : ℕ) → r < S.rules → Done r)
      → Passing A c X₀ X par Done j → Raised (c + j * (Q * A)) (suc k) X par
  passing_end A c k j X₀ X par₀ par Done h all e = record { sound = e.sound; least = e.least; reach = reach'; most = e.most }
    where
      reach' : (u w : ℕ) (rs : List ℕ) → length rs ≤ suc k → Walk S u w rs → Q * delays D rs ≤ get_or X w 0 + P * offsets S rs
      reach' u w [] b walk = omega arith
      reach' u w (r ∷ rs) b walk =
          let l = walk_last S u w r rs walk in
          omega (
            arith,
            ap length l.whole,
            length-append l.front (l.rule ∷ []),
            ap (λ x. Q * delays D x) l.whole,
            ap (λ x. P * offsets S x) l.whole,
            ap (λ x. Q * x) (delays_append D l.front (l.rule ∷ [])),
            ap (λ x. P * x) (offsets_append S l.front (l.rule ∷ [])),
            h.reach u (S.source l.rule) l.front (few l) l.to,
            e.asked l.rule (all l.rule l.is_rule),
            ap (λ v. get_or X v 0) l.ends,
          )
        where
          few : (l : Rattle.theory.specs.Walk.Last S u w (r ∷ rs)) → length l.front ≤ k
          few l = omega (arith, ap length l.whole, length-append l.front (l.rule ∷ []))

  -- A PASS THAT RAISED NOTHING LEAVES A SCHEDULE
  pub settled : (A c j : ℕ) (X par : List ℕ) (Done : ℕ → Type 0) → ((r : ℕ) → r < S.rules → Done r) → Passing A c X X par Done j → Keeps S D P Q X
  settled A c j X par Done all e r b = e.asked r (all r b)
