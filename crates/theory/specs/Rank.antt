-- Ranks: where every loop turns, the transitions can be ranked so that rules of offset 0 go upward.
--
--   ZeroRanks S X    == X rises along every rule of offset 0
--   ranks_live       a rank shows that every loop turns
--   live_ranks       where every loop turns there is a rank
use Rattle.std.specs.Prelude.{◌≡◌, refl, List, [], ◌∷◌, ℕ, zero, suc, ◌+◌, ◌*◌, ◌≤◌, ◌<◌, length, get_or, replicate}
use Rattle.std.proofs.Common.{sym, ap, ⊎_elim, arith, le_of_eq}
use Rattle.std.proofs.lemmas.List.{length-replicate}
use Rattle.model.specs.Shape.{Shape, Fits}
use Rattle.model.specs.Sums.{delays, offsets}
use Rattle.model.specs.Walk.{Walk}
use Rattle.model.specs.Loop.{Live}
use Rattle.theory.specs.Walk.{LoopAbove}
use Rattle.theory.specs.Loop.{loop_short}
use Rattle.theory.specs.Relax.{values, keeps_or_above}

abbrev pub ZeroRanks : Shape → List ℕ → Type 0
ZeroRanks S X = (r : ℕ) → r < S.rules → S.offset r ≡ 0 → get_or X (S.source r) 0 < get_or X (S.target r) 0

-- along a walk of offset sum 0 a rank rises with every rule
module _ (S : Shape) (X : List ℕ) (ranks : ZeroRanks S X) where
  zero_rises : (u w : ℕ) (rs : List ℕ) → Walk S u w rs → offsets S rs ≡ 0 → get_or X u 0 + length rs ≤ get_or X w 0
  zero_rises u w [] h z = omega (arith, ap (λ v. get_or X v 0) h)
  zero_rises u w (r ∷ rs) h z = omega (arith, ap (λ v. get_or X v 0) h.1, ranks r h.0 (omega (arith, z)), zero_rises (S.target r) w rs h.2 (omega (arith, z)))

  pub ranks_live : Live S
  ranks_live u rs l = pos (offsets S rs) (λ z. omega (arith, l.some_rule, zero_rises u u rs l.closed z))
    where
      pos : (x : ℕ) → (x ≡ 0 → ⊥) → 0 < x
      pos x h = omega arith

-- every delay 1: the delays count the rules
ones : ℕ → ℕ
ones r = 1

delays_ones : (rs : List ℕ) → delays ones rs ≡ length rs
unfolding ones
delays_ones [] = refl
delays_ones (r ∷ rs) = omega (arith, delays_ones rs)

-- A RANK. With every delay 1 a schedule at the period n rises along every rule of offset 0; a loop above n has n rules for each turn and more,
-- and as no loop has more than n rules, it has no turn.
pub live_ranks : (S : Shape) (n : ℕ) → Fits S n → Live S → (X : List ℕ) × ZeroRanks S X
unfolding ones
live_ranks S n fits live =
    ⊎_elim (λ k. (values S ones n 1 n n, λ r b e. omega (arith, k r b, ap (λ x. n * x) e))) (λ o. absurd (turns o))
    (keeps_or_above S ones n 1 n fits (replicate n 0) (le_of_eq (sym (length-replicate n 0))) n (omega arith))
  where
    few : (o len : ℕ) → n * o < len → len ≤ n → 0 < o → ⊥
    few zero len a b c = omega arith
    few (suc o) len a b c = omega arith

    turns : LoopAbove S ones n 1 → ⊥
    turns o =
        few (offsets S o.loop) (length o.loop) (omega (arith, o.above, delays_ones o.loop)) (loop_short S n fits o.at o.loop o.is_loop)
        (live o.at o.loop o.is_loop)
