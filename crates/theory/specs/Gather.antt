-- The rules whose targets reach v, taken by themselves: their loops are the loops that reach v, so that the rate of v is their period.
--
--   Gathers S T v f    == the rules of T are the rules of S whose targets reach v, in their order and with their offsets: rule j of T is rule f j of S
--   gathers_all        where every target reaches v, the rules themselves are
--   live_gathered      if every loop of S turns, so does every loop of T
--   none_gathered      if T has no loop, none of S reaches v
--   rate_gathered      the period of T is the rate of v
use Rattle.std.specs.Prelude.{◌≡◌, refl, List, [], ◌∷◌, map, ℕ, ◌*◌, ◌<◌, length}
use Rattle.std.proofs.Common.{ap, ◌∙◌, arith}
use Rattle.model.specs.Shape.{Shape}
use Rattle.model.specs.Sums.{delays, offsets}
use Rattle.model.specs.Walk.{Walk}
use Rattle.model.specs.Loop.{Loop, NoLoop, Live}
use Rattle.model.specs.Period.{Period, NotAbove}
use Rattle.model.specs.Rate.{Reaches, LoopTo, NoLoopTo, Rate}
use Rattle.theory.specs.Sums.{All}
use Rattle.theory.specs.First.{KindLoop}
use Rattle.theory.specs.Near.{Picks, named_loop, places_loop, placed_loop, picked_none}
use Rattle.theory.specs.Rate.{reach_over}

abbrev pub Reaching : Shape → ℕ → ℕ → Type 0
Reaching S v r = Reaches S (S.target r) v

pub record Gathers (S T : Shape) (v : ℕ) (f : ℕ → ℕ) : Type 0 where
  pub picks : Picks (Reaching S v) S T f
  pub offset_is : (j : ℕ) → j < T.rules → T.offset j ≡ S.offset (f j)

pub gathers_all : (S : Shape) (v : ℕ) → ((r : ℕ) → r < S.rules → Reaching S v r) → Gathers S S v (λ r. r)
gathers_all S v all =
    record {
      picks = record { is_rule = λ j b. b; kind = all; source_is = λ j b. refl; target_is = λ j b. refl; ascending = λ i j a b. a; all = λ r b a. (r, b, refl) };
      offset_is = λ j b. refl;
    }

module _ (S T : Shape) (v : ℕ) (f : ℕ → ℕ) (g : Gathers S T v f) where
  -- a loop of T, under its rules' own numbers, reaches v: over the first rule's target
  named_to : (u : ℕ) (js : List ℕ) → Loop T u js → LoopTo S v u (map f js)
  named_to u js l =
      let k = named_loop (Reaching S v) S T f g.picks u js l in
      record { is_loop = k.is_loop; reaches = over (map f js) k.is_loop.some_rule k.is_loop.closed k.kind }
    where
      over : (rs : List ℕ) → 0 < length rs → Walk S u u rs → All (Reaching S v) rs → Reaches S u v
      over [] b h a = absurd (omega arith)
      over (r ∷ rs) b h a = reach_over S u (S.target r) v (r ∷ []) (h.0, h.1, refl) a.0

  -- from each target on a walk to where v can be reached from v can be reached
  walk_kind : (u w : ℕ) (rs : List ℕ) → Walk S u w rs → Reaches S w v → All (Reaching S v) rs
  walk_kind u w [] h b = tt
  walk_kind u w (r ∷ rs) h b = (reach_over S (S.target r) w v rs h.2 b, walk_kind (S.target r) w rs h.2 b)

  kind_to : (u : ℕ) (rs : List ℕ) → LoopTo S v u rs → KindLoop S (Reaching S v) u rs
  kind_to u rs l = record { is_loop = l.is_loop; kind = walk_kind u u rs l.is_loop.closed l.reaches }

  named_offsets : (u w : ℕ) (js : List ℕ) → Walk T u w js → offsets T js ≡ offsets S (map f js)
  named_offsets u w [] h = refl
  named_offsets u w (j ∷ js) h = omega (arith, g.offset_is j h.0, named_offsets (T.target j) w js h.2)

  named_delays : (D : ℕ → ℕ) (js : List ℕ) → delays (λ j. D (f j)) js ≡ delays D (map f js)
  named_delays D [] = refl
  named_delays D (j ∷ js) = omega (arith, named_delays D js)

  pub live_gathered : Live S → Live T
  live_gathered live u js l = omega (arith, live u (map f js) (named_to u js l).is_loop, named_offsets u u js l.closed)

  pub none_gathered : NoLoop T → NoLoopTo S v
  none_gathered none u rs l = picked_none (Reaching S v) S T f g.picks none u rs (kind_to u rs l)

  -- THE PERIOD OF T IS THE RATE OF v
  pub rate_gathered : (D : ℕ → ℕ) (P Q : ℕ) → Period T (λ j. D (f j)) P Q → Rate S D v P Q
  rate_gathered D P Q x =
      record {
        q_pos = x.q_pos;
        at = x.at;
        loop = map f x.loop;
        is_loop_to = named_to x.at x.loop x.is_loop;
        turns = omega (arith, x.turns, named_offsets x.at x.at x.loop x.is_loop.closed);
        attained = omega (arith, x.attained, ap (λ d. Q * d) (named_delays D x.loop), ap (λ o. P * o) (named_offsets x.at x.at x.loop x.is_loop.closed));
        highest = λ u rs l. above u rs (kind_to u rs l);
      }
    where
      above : (u : ℕ) (rs : List ℕ) → KindLoop S (Reaching S v) u rs → NotAbove S D P Q rs
      above u rs k =
          let t = places_loop (Reaching S v) S T f g.picks u rs k in
          let l = (placed_loop (Reaching S v) S T f g.picks u rs k t).is_loop in
          omega (
            arith,
            x.highest u t.places l,
            ap (λ d. Q * d) (named_delays D t.places ∙ ap (delays D) t.names),
            ap (λ o. P * o) (named_offsets u u t.places l.closed ∙ ap (offsets S) t.names),
          )
