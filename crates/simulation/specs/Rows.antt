-- The rows of times, made one after the other, each along the order. The rules stand in groups by target.
--
--   at n X i v            == the time of occurrence i of transition v in the buffer X
--   Asks i n s e X        == a rule from s with offset e may ask: its source's time is there and is low
--   Larger best i n s e a X r
--                         == r is the larger of best and what a rule from s with offset e and delay a asks for, if it acts
--   AsksAll G v n i X     == all rules into v may ask
--   Pulled G from to n i X best
--                         == best is the largest time that the rules at the places from `from` to `to` ask for, and 0 if none acts
--   Plan G order n
--                         == groups and an order of the n transitions, within the limits
--   Written order n i k j u
--                         == the time of occurrence j of u is written before that of occurrence i of the transition at place k of the order
--   Done G order n i k X
--                         == every time written so far is right, and low
--   Going, Row            == a row begun, with k of its times written; and a row made
--   Begun, Rows           == the first i rows; and all of them
use Rattle.std.specs.Prelude.{◌≡◌, refl, ◌≢◌, ◌⊎◌, List, ℕ, ◌+◌, ◌*◌, ◌-◌, ◌≤◌, ◌<◌, length, get_or, set}
use Rattle.std.proofs.Common.{sym, ap, ◌∙◌, inl, inr, ⊎_elim, arith, mul-le-mul, mul-le-mul_right, le_trans, length-set, get_or-set_same, get_or-set_other}
use Rattle.std.proofs.Math.Logic.{by_cases}
use Rattle.std.proofs.Math.Decide.{ℕ_discrete}
use Rattle.simulation.specs.declared.group.Groups.{Groups}
use Rattle.simulation.specs.Groups.{Within, Bounded}
use Rattle.simulation.specs.Order.{Complete}

abbrev pub at : ℕ → List ℕ → ℕ → ℕ → ℕ
at n X i v = get_or X (i * n + v) 0

-- far below 2^63
abbrev pub top : ℕ
top = 1000000000000000000

pub record Asks (i n s e : ℕ) (X : List ℕ) : Type 0 where
  pub inside : e ≤ i → (i - e) * n + s < length X
  pub low : e ≤ i → at n X (i - e) s ≤ top

pub record Larger (best i n s e a : ℕ) (X : List ℕ) (r : ℕ) : Type 0 where
  pub kept : best ≤ r
  pub asked : e ≤ i → at n X (i - e) s + a ≤ r
  pub one : (r ≡ best) ⊎ ((e ≤ i) × (r ≡ at n X (i - e) s + a))

pub record AsksAll (G : Groups) (v n i : ℕ) (X : List ℕ) : Type 0 where
  pub low : v < 256
  pub rising : get_or G.first v 0 ≤ get_or G.first (v + 1) 0
  pub few : get_or G.first (v + 1) 0 ≤ 2048
  pub each : (j : ℕ) → Within G.first v j → Asks i n (get_or G.sources j 0) (get_or G.offsets j 0) X

-- a rule that acts and asks for just this time
pub record Pull (G : Groups) (from to n i : ℕ) (X : List ℕ) (best : ℕ) : Type 0 where
  pub place : ℕ
  pub from_low : from ≤ place
  pub to_high : place < to
  pub reached : get_or G.offsets place 0 ≤ i
  pub exact : best ≡ at n X (i - get_or G.offsets place 0) (get_or G.sources place 0) + get_or G.delays place 0

pub record Pulled (G : Groups) (from to n i : ℕ) (X : List ℕ) (best : ℕ) : Type 0 where
  pub all : (j : ℕ) → from ≤ j → j < to → get_or G.offsets j 0 ≤ i → at n X (i - get_or G.offsets j 0) (get_or G.sources j 0) + get_or G.delays j 0 ≤ best
  pub one : (best ≡ 0) ⊎ Pull G from to n i X best

pub record Plan (G : Groups) (order : List ℕ) (n : ℕ) : Type 0 where
  pub bounded : Bounded G n
  pub complete : Complete G n order
  pub short : (v j : ℕ) → v < n → Within G.first v j → get_or G.delays j 0 ≤ 1000000

abbrev pub Written : List ℕ → ℕ → ℕ → ℕ → ℕ → ℕ → Type 0
Written order n i k j u = ((j < i) × (u < n)) ⊎ ((j ≡ i) × ((h : ℕ) × (h < k) × (get_or order h 0 ≡ u)))

pub record Done (G : Groups) (order : List ℕ) (n i k : ℕ) (X : List ℕ) : Type 0 where
  pub times : (j u : ℕ) → Written order n i k j u → Pulled G (get_or G.first u 0) (get_or G.first (u + 1) 0) n j X (at n X j u)
  pub low : (j u : ℕ) → Written order n i k j u → at n X j u ≤ (i * n + k) * 1000000

pub record Going (G : Groups) (order : List ℕ) (n i k : ℕ) (X₀ X : List ℕ) : Type 0 where
  pub done : Done G order n i k X
  pub size : length X ≡ length X₀
  pub rest : (p : ℕ) → i * n + n ≤ p → get_or X p 0 ≡ get_or X₀ p 0

pub record Row (G : Groups) (order : List ℕ) (n i : ℕ) (X₀ X : List ℕ) : Type 0 where
  pub done : Done G order n (i + 1) 0 X
  pub size : length X ≡ length X₀
  pub rest : (p : ℕ) → i * n + n ≤ p → get_or X p 0 ≡ get_or X₀ p 0

pub record Begun (G : Groups) (order : List ℕ) (n i : ℕ) (X₀ X : List ℕ) : Type 0 where
  pub done : Done G order n i 0 X
  pub size : length X ≡ length X₀
  pub rest : (p : ℕ) → i * n ≤ p → get_or X p 0 ≡ get_or X₀ p 0

pub record Rows (G : Groups) (order : List ℕ) (n count : ℕ) (X₀ X : List ℕ) : Type 0 where
  pub times : (i v : ℕ) → i < count → v < n → Pulled G (get_or G.first v 0) (get_or G.first (v + 1) 0) n i X (at n X i v)
  pub size : length X ≡ length X₀
  pub rest : (p : ℕ) → count * n ≤ p → get_or X p 0 ≡ get_or X₀ p 0

-- one rule -------------------------------------------------------------------------------------------------------------------------------------
module _ (best i n s e a : ℕ) (X : List ℕ) where
  pub larger_asleep : i < e → Larger best i n s e a X best
  larger_asleep l = record { kept = omega arith; asked = λ h. absurd (omega arith); one = inl refl }

  pub larger_kept : at n X (i - e) s + a ≤ best → Larger best i n s e a X best
  larger_kept l = record { kept = omega arith; asked = λ h. l; one = inl refl }

  pub larger_raised : e ≤ i → best < at n X (i - e) s + a → Larger best i n s e a X (at n X (i - e) s + a)
  larger_raised h l = record { kept = omega arith; asked = λ h. omega arith; one = inr (h, refl) }

-- one group ------------------------------------------------------------------------------------------------------------------------------------
module _ (G : Groups) (from n i : ℕ) (X : List ℕ) where
  pub pulled_start : Pulled G from from n i X 0
  pulled_start = record { all = λ j a b e. absurd (omega arith); one = inl refl }

  -- a pull among fewer places
  pull_more : (j best : ℕ) → Pull G from j n i X best → Pull G from (j + 1) n i X best
  pull_more j best p = record { place = p.place; from_low = p.from_low; to_high = omega (arith, p.to_high); reached = p.reached; exact = p.exact }

  pub pulled_step : (j best r : ℕ) → from ≤ j → Pulled G from j n i X best → Larger best i n (get_or G.sources j 0) (get_or G.offsets j 0) (get_or G.delays j 0) X r
      → Pulled G from (j + 1) n i X r
  pulled_step j best r l old next =
      record {
        all = λ q a b e. by_cases (ℕ_discrete q j) (λ s. rw s (next.asked (rw s at e))) (λ d. le_trans (old.all q a (omega arith) e) next.kept);
        one = ⊎_elim kept here next.one;
      }
    where
      kept : r ≡ best → (r ≡ 0) ⊎ Pull G from (j + 1) n i X r
      kept e = ⊎_elim (λ z. inl (e ∙ z)) (λ p. inr (rw e (pull_more j best p))) old.one

      here : (get_or G.offsets j 0 ≤ i) × (r ≡ at n X (i - get_or G.offsets j 0) (get_or G.sources j 0) + get_or G.delays j 0) → (r ≡ 0) ⊎ Pull G from (j + 1) n i X r
      here h = inr (record { place = j; from_low = l; to_high = omega arith; reached = h.0; exact = h.1 })

  -- the buffer counts only at the places that are read
  pub pulled_agrees : (to best : ℕ) (Y : List ℕ)
      → ((j : ℕ) → from ≤ j → j < to → get_or G.offsets j 0 ≤ i → at n Y (i - get_or G.offsets j 0) (get_or G.sources j 0) ≡ at n X (i - get_or G.offsets j 0) (get_or G.sources j 0))
      → Pulled G from to n i X best → Pulled G from to n i Y best
  pulled_agrees to best Y same old =
      record {
        all = λ j a b e. omega (arith, same j a b e, old.all j a b e);
        one = ⊎_elim inl (λ p. inr (move p)) old.one;
      }
    where
      move : Pull G from to n i X best → Pull G from to n i Y best
      move p =
          record {
            place = p.place;
            from_low = p.from_low;
            to_high = p.to_high;
            reached = p.reached;
            exact = omega (arith, p.exact, same p.place p.from_low p.to_high p.reached);
          }

-- one row --------------------------------------------------------------------------------------------------------------------------------------
module _ (G : Groups) (order : List ℕ) (n : ℕ) (plan : Plan G order n) where
  -- the transition at place k
  placed : (k : ℕ) → k < n → get_or order k 0 < n
  placed k l = plan.complete.ordered.low k l

  written_low : (i k j u : ℕ) → k ≤ n → Written order n i k j u → u < n
  written_low i k j u l w = ⊎_elim (λ a. a.1) (λ a. rw a.1.2 at (placed a.1.0 (omega (arith, a.1.1)))) w

  -- WHAT A RULE ASKS FOR IS FINAL: its source's occurrence is in an earlier row, or before in the order
  source_written : (i k j : ℕ) → k < n → Within G.first (get_or order k 0) j → get_or G.offsets j 0 ≤ i → Written order n i k (i - get_or G.offsets j 0) (get_or G.sources j 0)
  source_written i k j l w e =
      by_cases (ℕ_discrete (get_or G.offsets j 0) 0)
      (λ z. inr (omega arith, plan.complete.ordered.source_first k j l w z))
      (λ d. inl (omega arith, plan.bounded.sources_low (get_or order k 0) j (placed k l) w))

  sources_written : (i k j u q : ℕ) → k ≤ n → Written order n i k j u → Within G.first u q → get_or G.offsets q 0 ≤ j → Written order n i k (j - get_or G.offsets q 0) (get_or G.sources q 0)
  sources_written i k j u q l w g e =
      ⊎_elim
      (λ a. inl (omega (arith, a.0), plan.bounded.sources_low u q a.1 g))
      (λ a.
      let h = a.1.0 in
      let below : h < k = a.1.1 in
      widen h below (source_written j h q (omega arith) (rw (← a.1.2) at g) e) a.0)
      w
    where
      -- what is written before an earlier place is written
      widen : (h : ℕ) → h < k → Written order n j h (j - get_or G.offsets q 0) (get_or G.sources q 0) → j ≡ i → Written order n i k (j - get_or G.offsets q 0) (get_or G.sources q 0)
      widen h b x s = ⊎_elim (λ a. inl (omega (arith, a.0), a.1)) (λ a. inr (omega (arith, a.0), (a.1.0, omega (arith, a.1.1), a.1.2))) x

  -- a written place is not the next one
  place_differs : (i k j u : ℕ) → k < n → Written order n i k j u → j * n + u ≢ i * n + get_or order k 0
  place_differs i k j u l w e =
      ⊎_elim
      (λ a. omega (arith, a.1, mul-le-mul_right {m = j + 1} {n = i} n (omega (arith, a.0))))
      (λ a.
      let same : u ≡ get_or order k 0 = omega (arith, ap (λ x. x * n) a.0) in
      plan.complete.ordered.different a.1.0 k a.1.1 l (a.1.2 ∙ same))
      w

  module _ (i k : ℕ) (l : k < n) (X : List ℕ) (old : Done G order n i k X) where
    module _ (v : ℕ) (a : v ≡ get_or order k 0) where
      within : (j : ℕ) → get_or G.first v 0 ≤ j → j < get_or G.first (v + 1) 0 → Within G.first (get_or order k 0) j
      within j p q = (rw a at p, rw a at q)

      v_low : v < n
      v_low = rw a (placed k l)

      -- the place of a time in an earlier row, or in this one
      inside : (h u : ℕ) → h ≤ i → u < n → i * n + n ≤ length X → h * n + u < length X
      inside h u p q room = omega (arith, mul-le-mul_right n p)

      low : (h u : ℕ) → i < 1024 → Written order n i k h u → at n X h u ≤ top
      low h u few w =
          let product : i * n ≤ 1023 * 256 = mul-le-mul {n₁ = i} {m₁ = n} {n₂ = 1023} {m₂ = 256} (omega arith) plan.bounded.few in
          omega (arith, old.low h u w, plan.bounded.few)

      -- the rules of the next transition may ask
      pub asks_all : i < 1024 → i * n + n ≤ length X → AsksAll G v n i X
      asks_all few room =
          record {
            low = omega (arith, v_low, plan.bounded.few);
            rising = plan.bounded.rising v v_low;
            few = plan.bounded.ends v v_low;
            each = λ j p.
                let w = within j p.0 p.1 in
                record {
                  inside = λ e. inside (i - get_or G.offsets j 0) (get_or G.sources j 0) (omega arith) (plan.bounded.sources_low (get_or order k 0) j (placed k l) w) room;
                  low = λ e. low (i - get_or G.offsets j 0) (get_or G.sources j 0) few (source_written i k j l w e);
                };
          }

      module _ (best : ℕ) (room : i * n + v < length X) (pulled : Pulled G (get_or G.first v 0) (get_or G.first (v + 1) 0) n i X best) where
        abbrev Y : List ℕ
        Y = set X (i * n + v) best

        here : at n Y i v ≡ best
        here = get_or-set_same X (i * n + v) best 0 room

        same : (j u : ℕ) → Written order n i k j u → at n Y j u ≡ at n X j u
        same j u w = get_or-set_other X (i * n + v) (j * n + u) best 0 (λ e. place_differs i k j u l w (rw a at e))

        best_low : best ≤ (i * n + k) * 1000000 + 1000000
        best_low =
            ⊎_elim
            (λ z. omega arith)
            (λ p.
            let w = within p.place p.from_low p.to_high in
            omega (
              arith,
              p.exact,
              old.low (i - get_or G.offsets p.place 0) (get_or G.sources p.place 0) (source_written i k p.place l w p.reached),
              plan.short (get_or order k 0) p.place (placed k l) w,
            ))
            pulled.one

        -- the next transition is done
        times_here : Pulled G (get_or G.first v 0) (get_or G.first (v + 1) 0) n i Y (at n Y i v)
        times_here =
            rw here
            (pulled_agrees G (get_or G.first v 0) n i X (get_or G.first (v + 1) 0) best Y
            (λ j p q e. same (i - get_or G.offsets j 0) (get_or G.sources j 0) (source_written i k j l (within j p q) e))
            pulled)

        -- and the others stay done
        times_same : (j u : ℕ) → Written order n i k j u → Pulled G (get_or G.first u 0) (get_or G.first (u + 1) 0) n j Y (at n Y j u)
        times_same j u w =
            rw (same j u w)
            (pulled_agrees G (get_or G.first u 0) n j X (get_or G.first (u + 1) 0) (at n X j u) Y
            (λ q f g e. same (j - get_or G.offsets q 0) (get_or G.sources q 0) (sources_written i k j u q (omega arith) w (f, g) e))
            (old.times j u w))

        each : (C : ℕ → ℕ → Type 0) → ((j u : ℕ) → Written order n i k j u → C j u) → C i v → (j u : ℕ) → Written order n i (k + 1) j u → C j u
        each C p q j u w =
            ⊎_elim
            (λ e. p j u (inl e))
            (λ e.
            by_cases (ℕ_discrete e.1.0 k)
            (λ s. let t : u ≡ v = sym e.1.2 ∙ ap (λ x. get_or order x 0) s ∙ sym a in rw (e.0, t) q)
            (λ d. p j u (inr (e.0, (e.1.0, omega (arith, e.1.1), e.1.2)))))
            w

        pub done_step : Done G order n i (k + 1) (set X (i * n + v) best)
        done_step =
            record {
              times = each (λ j u. Pulled G (get_or G.first u 0) (get_or G.first (u + 1) 0) n j Y (at n Y j u)) times_same times_here;
              low = each (λ j u. at n Y j u ≤ (i * n + (k + 1)) * 1000000) (λ j u w. omega (arith, same j u w, old.low j u w)) (omega (arith, here, best_low));
            }

        pub going_step : (X₀ : List ℕ) → Going G order n i k X₀ X → Going G order n i (k + 1) X₀ (set X (i * n + v) best)
        going_step X₀ going =
            record {
              done = done_step;
              size = simp length-set going.size;
              rest = λ p h. get_or-set_other X (i * n + v) p best 0 (λ e. omega (arith, v_low)) ∙ going.rest p h;
            }

  -- a row is made when all places of the order are done
  pub row_end : (i : ℕ) (X₀ X : List ℕ) → Going G order n i n X₀ X → Row G order n i X₀ X
  row_end i X₀ X going =
      record {
        done = record { times = λ j u w. going.done.times j u (earlier j u w); low = λ j u w. omega (arith, going.done.low j u (earlier j u w)) };
        size = going.size;
        rest = going.rest;
      }
    where
      earlier : (j u : ℕ) → Written order n (i + 1) 0 j u → Written order n i n j u
      earlier j u w =
          ⊎_elim
          (λ e. by_cases (ℕ_discrete j i) (λ s. inr (s, plan.complete.all u e.1)) (λ d. inl (omega (arith, e.0), e.1)))
          (λ e. absurd (omega (arith, e.1.1)))
          w

-- all rows -------------------------------------------------------------------------------------------------------------------------------------
module _ (G : Groups) (order : List ℕ) (n : ℕ) where
  pub going_start : (i : ℕ) (X : List ℕ) → Done G order n i 0 X → Going G order n i 0 X X
  going_start i X d = record { done = d; size = refl; rest = λ p h. refl }

  pub begun_start : (X : List ℕ) → Begun G order n 0 X X
  begun_start X =
      record {
        done = record { times = λ j u w. absurd (none j u w); low = λ j u w. absurd (none j u w) };
        size = refl;
        rest = λ p h. refl;
      }
    where
      none : (j u : ℕ) → Written order n 0 0 j u → ⊥
      none j u w = ⊎_elim (λ e. omega (arith, e.0)) (λ e. omega (arith, e.1.1)) w

  pub begun_step : (i : ℕ) (X₀ X Y : List ℕ) → Begun G order n i X₀ X → Row G order n i X Y
      → Begun G order n (i + 1) X₀ Y
  begun_step i X₀ X Y old row =
      record { done = row.done; size = row.size ∙ old.size; rest = λ p h. row.rest p (omega arith) ∙ old.rest p (omega arith) }

  pub rows_end : (count : ℕ) (X₀ X : List ℕ) → Begun G order n count X₀ X → Rows G order n count X₀ X
  rows_end count X₀ X b = record { times = λ i v l m. b.done.times i v (inl (l, m)); size = b.size; rest = b.rest }
