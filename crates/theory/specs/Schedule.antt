-- Schedules: what one shows of walks and loops, which rules it keeps just so, and that the least is one list.
--
--   walk_rises            over a walk a schedule rises by at least the walk's weight
--   closed_not_above      so no closed walk is above P/Q
--   TightRule S D P Q X r == X keeps rule r with nothing to spare
--   rules_of_attaining, attaining_of_rules   a closed walk attains P/Q just where all its rules are tight
--   keeps_shorter         a schedule keeps shorter delays
--   least_unique          there is one least schedule
use Rattle.std.specs.Prelude.{◌≡◌, refl, List, [], ◌∷◌, ℕ, suc, ◌+◌, ◌*◌, ◌≤◌, ◌<◌, length, get_or}
use Rattle.std.proofs.Common.{sym, ap, ◌∙◌, arith, mul-le-mul_left, le_antisymm}
use Rattle.model.specs.Shape.{Shape}
use Rattle.model.specs.Sums.{delays, offsets}
use Rattle.model.specs.Walk.{Walk}
use Rattle.model.specs.Period.{Attains, NotAbove}
use Rattle.model.specs.Schedule.{Keeps, LeastSchedule}
use Rattle.theory.specs.Sums.{All}

-- rule r is tight at X
abbrev pub TightRule : Shape → (ℕ → ℕ) → ℕ → ℕ → List ℕ → ℕ → Type 0
TightRule S D P Q X r = get_or X (S.source r) 0 + Q * D r ≡ get_or X (S.target r) 0 + P * S.offset r

module _ (S : Shape) (D : ℕ → ℕ) (P Q : ℕ) (X : List ℕ) (keeps : Keeps S D P Q X) where
  -- over a walk the schedule rises by at least the walk's weight
  pub walk_rises : (u w : ℕ) (rs : List ℕ) → Walk S u w rs → get_or X u 0 + Q * delays D rs ≤ get_or X w 0 + P * offsets S rs
  walk_rises u w [] e = omega (arith, ap (λ v. get_or X v 0) e)
  walk_rises u w (r ∷ rs) h = omega (arith, keeps r h.0, ap (λ v. get_or X v 0) h.1, walk_rises (S.target r) w rs h.2)

  -- so no closed walk has a weight above 0
  pub closed_not_above : (u : ℕ) (rs : List ℕ) → Walk S u u rs → NotAbove S D P Q rs
  closed_not_above u rs h = omega (arith, walk_rises u u rs h)

  -- over tight rules the schedule rises by exactly the weight
  walk_tight : (u w : ℕ) (rs : List ℕ) → Walk S u w rs → All (TightRule S D P Q X) rs → get_or X u 0 + Q * delays D rs ≡ get_or X w 0 + P * offsets S rs
  walk_tight u w [] h t = omega (arith, ap (λ v. get_or X v 0) h)
  walk_tight u w (r ∷ rs) h t = omega (arith, t.0, ap (λ v. get_or X v 0) h.1, walk_tight (S.target r) w rs h.2 t.1)

  -- and where it does, the rules are tight
  pub tight_walk : (u w : ℕ) (rs : List ℕ) → Walk S u w rs → get_or X w 0 + P * offsets S rs ≤ get_or X u 0 + Q * delays D rs → All (TightRule S D P Q X) rs
  tight_walk u w [] h t = tt
  tight_walk u w (r ∷ rs) h t =
      let k = keeps r h.0 in
      let e = ap (λ v. get_or X v 0) h.1 in
      let ks = walk_rises (S.target r) w rs h.2 in
      (omega arith, tight_walk (S.target r) w rs h.2 (omega arith))

  -- so a closed walk attains P/Q just where its rules are tight
  pub attaining_of_rules : (u : ℕ) (rs : List ℕ) → Walk S u u rs → All (TightRule S D P Q X) rs → Attains S D P Q rs
  attaining_of_rules u rs h t = omega (arith, walk_tight u u rs h t)

  pub rules_of_attaining : (u : ℕ) (rs : List ℕ) → Walk S u u rs → Attains S D P Q rs → All (TightRule S D P Q X) rs
  rules_of_attaining u rs h t = tight_walk u u rs h (omega (arith, t))

pub keeps_shorter : (S : Shape) (D E : ℕ → ℕ) → ((r : ℕ) → r < S.rules → D r ≤ E r) → (P Q : ℕ) (X : List ℕ) → Keeps S E P Q X → Keeps S D P Q X
keeps_shorter S D E more P Q X k r b = omega (arith, k r b, mul-le-mul_left Q (more r b))

-- lists are determined by their values
pub same_list : (X Y : List ℕ) → length X ≡ length Y → ((v : ℕ) → v < length X → get_or X v 0 ≡ get_or Y v 0) → X ≡ Y
same_list [] [] e h = refl
same_list [] (y ∷ Y) e h = absurd (omega arith)
same_list (x ∷ X) [] e h = absurd (omega arith)
same_list (x ∷ X) (y ∷ Y) e h = let a = h 0 (omega arith) in let b = same_list X Y (omega arith) (λ v l. h (suc v) (omega arith)) in cc (a, b)

-- ONLY ONE
pub least_unique : (S : Shape) (D : ℕ → ℕ) (n P Q : ℕ) (X Y : List ℕ) → LeastSchedule S D n P Q X → LeastSchedule S D n P Q Y → X ≡ Y
least_unique S D n P Q X Y a b =
    same_list X Y (a.is_schedule.size ∙ sym b.is_schedule.size)
    (λ v l. le_antisymm (a.least Y b.is_schedule v (omega (arith, a.is_schedule.size))) (b.least X a.is_schedule v (omega (arith, a.is_schedule.size))))
