-- Loops: read from another of their transitions, and how long they are.
--
--   turned        a loop read from another transition is a loop, with the same sums and as many rules
--   loop_short    a loop has at most as many rules as there are transitions
--   loop_start    it starts at one of them
--   closed_loop   a closed walk that is not empty has a loop in it, all of whose rules are rules of the walk
use Rattle.std.specs.Prelude.{◌≡◌, refl, List, [], ◌∷◌, ◌++◌, ℕ, suc, ◌≤◌, ◌<◌, length}
use Rattle.std.proofs.Common.{sym, ap, subst, ⊎_elim, arith}
use Rattle.model.specs.Shape.{Shape, Fits}
use Rattle.model.specs.Sums.{delays, offsets}
use Rattle.model.specs.Distinct.{Distinct}
use Rattle.model.specs.Walk.{Walk, sources}
use Rattle.model.specs.Loop.{Loop}
use Rattle.theory.specs.Distinct.{AllBelow, distinct_swap, not_in_last, pigeonhole}
use Rattle.theory.specs.Sums.{All, all_append, delays_append, offsets_append}
use Rattle.theory.specs.Walk.{walk_append, walk_split, Splits, path_or_splits}

module _ (S : Shape) where
  sources_append : (rs ss : List ℕ) → sources S (rs ++ ss) ≡ sources S rs ++ sources S ss
  sources_append [] ss = refl
  sources_append (r ∷ rs) ss = ap (λ l. S.source r ∷ l) (sources_append rs ss)

  module _ (u : ℕ) (rs : List ℕ) (s : ℕ) (ss : List ℕ) where
    -- A LOOP TURNED ROUND IS A LOOP
    pub turned : Loop S u (rs ++ (s ∷ ss)) → Loop S (S.source s) ((s ∷ ss) ++ rs)
    turned l =
        let t = walk_split S u u rs s ss l.closed in
        record {
          some_rule = omega arith;
          closed = walk_append S (S.source s) u (S.source s) (s ∷ ss) rs t.1 t.0;
          simple = subst Distinct (sym (sources_append (s ∷ ss) rs)) (distinct_swap (sources S rs) (sources S (s ∷ ss)) (rw (sources_append rs (s ∷ ss)) at l.simple));
        }

    -- with the same sums and the same length
    pub turned_offsets : offsets S ((s ∷ ss) ++ rs) ≡ offsets S (rs ++ (s ∷ ss))
    turned_offsets = omega (arith, offsets_append S (s ∷ ss) rs, offsets_append S rs (s ∷ ss))

    pub turned_delays : (D : ℕ → ℕ) → delays D ((s ∷ ss) ++ rs) ≡ delays D (rs ++ (s ∷ ss))
    turned_delays D = omega (arith, delays_append D (s ∷ ss) rs, delays_append D rs (s ∷ ss))

  -- a closed walk of rules of one kind has a loop of that kind in it
  pub record LoopOf (A : ℕ → Type 0) : Type 0 where
    pub at : ℕ
    pub loop : List ℕ
    pub is_loop : Loop S at loop
    pub kind : All A loop

  pub closed_loop : (A : ℕ → Type 0) (u : ℕ) (rs : List ℕ) → 0 < length rs → Walk S u u rs → All A rs → LoopOf A
  closed_loop A u [] b h a = absurd (omega arith)
  closed_loop A u (r ∷ rs) b h a = ⊎_elim (λ d. absurd (not_in_last (S.source r) u (sources S rs) d.0 (sym h.1))) split (path_or_splits S u u (r ∷ rs) h)
    where
      split : Splits S u u (r ∷ rs) → LoopOf A
      split s =
          let parts = all_append A s.front (s.loop ++ s.back) (subst (All A) s.whole a) in
          record { at = s.at; loop = s.loop; is_loop = s.is_loop; kind = (all_append A s.loop s.back parts.1).0 }

module _ (S : Shape) (n : ℕ) (fits : Fits S n) where
  pub sources_below : (u w : ℕ) (rs : List ℕ) → Walk S u w rs → AllBelow n (sources S rs)
  sources_below u w [] h = tt
  sources_below u w (r ∷ rs) h = ((fits r h.0).0, sources_below (S.target r) w rs h.2)

  pub length_sources : (rs : List ℕ) → length (sources S rs) ≡ length rs
  length_sources [] = refl
  length_sources (r ∷ rs) = ap suc (length_sources rs)

  pub loop_short : (u : ℕ) (rs : List ℕ) → Loop S u rs → length rs ≤ n
  loop_short u rs l = omega (arith, length_sources rs, pigeonhole n (sources S rs) l.simple (sources_below u u rs l.closed))

  pub loop_start : (v : ℕ) (qs : List ℕ) → Loop S v qs → v < n
  loop_start v [] l = absurd (omega (arith, l.some_rule))
  loop_start v (q ∷ qs) l = rw l.closed.1 at (fits q l.closed.0).0
