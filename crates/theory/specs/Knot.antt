-- Loops without a turn: there is one, named at its lowest transition, or every loop turns.
--
--   knot_unique     its place is one transition
--   knot_or_live    there is a knot, or every loop turns; and not both
--   loop_or_none    there is a loop, or none
use Rattle.std.specs.Prelude.{◌≡◌, ◌⊎◌, List, [], ◌∷◌, ℕ, ◌<◌}
use Rattle.std.proofs.Common.{inl, inr, ⊎_elim, arith, le_antisymm}
use Rattle.std.proofs.Math.Decide.{ℕ_discrete}
use Rattle.model.specs.Shape.{Shape, Fits}
use Rattle.model.specs.Sums.{offsets}
use Rattle.model.specs.Loop.{Loop, SomeLoop, NoLoop, Live}
use Rattle.model.specs.Knot.{Knot}
use Rattle.theory.specs.Sums.{All, zero_all, all_zero}
use Rattle.theory.specs.First.{FirstLoop, none_or_first_loop}

-- ONLY ONE
pub knot_unique : (S : Shape) (u w : ℕ) → Knot S u → Knot S w → u ≡ w
knot_unique S u w a b = le_antisymm (a.lowest w b.loop b.is_loop b.no_turn) (b.lowest u a.loop a.is_loop a.no_turn)

-- not both
pub knot_not_live : (S : Shape) (u : ℕ) → Knot S u → ¬ (Live S)
knot_not_live S u k live = omega (arith, live u k.loop k.is_loop, k.no_turn)

-- the first loop of rules of offset 0 is read from the knot's place
pub first_knot : (S : Shape) (u : ℕ) (rs : List ℕ) → FirstLoop S (λ r. S.offset r ≡ 0) u rs → Knot S u
first_knot S u rs f =
    record {
      loop = rs;
      is_loop = f.is_one.is_loop;
      no_turn = all_zero S rs f.is_one.kind;
      lowest = λ w qs l e. f.lowest w qs (record { is_loop = l; kind = zero_all S qs e });
    }

-- no loop of rules of offset 0: every loop turns
pub none_live : (S : Shape) → ((u : ℕ) (rs : List ℕ) → Loop S u rs → ¬ (All (λ r. S.offset r ≡ 0) rs)) → Live S
none_live S none u rs l = pos (offsets S rs) (λ e. none u rs l (zero_all S rs e))
  where
    pos : (x : ℕ) → (x ≡ 0 → ⊥) → 0 < x
    pos x h = omega arith

-- A KNOT, OR EVERY LOOP TURNS
pub knot_or_live : (S : Shape) (n : ℕ) → Fits S n → ((u : ℕ) × Knot S u) ⊎ Live S
knot_or_live S n fits =
    ⊎_elim
    (λ none. inr (none_live S (λ u rs l a. none u rs (record { is_loop = l; kind = a }))))
    (λ f. inl (f.0, first_knot S f.0 f.1 f.2))
    (none_or_first_loop S (λ r. S.offset r ≡ 0) (λ r. ℕ_discrete _ _) n fits)

pub loop_or_none : (S : Shape) (n : ℕ) → Fits S n → SomeLoop S ⊎ NoLoop S
loop_or_none S n fits =
    ⊎_elim
    (λ none. inr (λ u rs l. none u rs (record { is_loop = l; kind = all_unit rs })))
    (λ f. inl (record { at = f.0; loop = f.1; is_loop = f.2.is_one.is_loop }))
    (none_or_first_loop S (λ r. Unit {0}) (λ r. yes tt) n fits)
  where
    all_unit : (rs : List ℕ) → All (λ r. Unit {0}) rs
    all_unit [] = tt
    all_unit (r ∷ rs) = (tt, all_unit rs)
