-- The simulation as a whole: what the groups, the order and the rows say of the columns in file order.
--
--   group_rule       each place of a group is a rule into its transition
--   groups_bounded   the groups lie within the limits
--   groups_ranked    where every loop turns there is a rank along the groups' rules of offset 0
--   groups_plan      with an order they are a plan
--   rows_timed       the rows made along it are the times
use Rattle.std.specs.Prelude.{◌≡◌, refl, List, ℕ, ◌+◌, ◌≤◌, ◌<◌, replicate}
use Rattle.std.proofs.Common.{sym, ◌∙◌, arith}
use Rattle.std.proofs.Math.Logic.{inl, inr, ⊎_elim}
use Rattle.std.proofs.Math.ListN.{get_or}
use Rattle.model.specs.Shape.{Shape}
use Rattle.model.specs.Loop.{Live}
use Rattle.model.specs.Times.{Acts, asked, Cause, Timed}
use Rattle.theory.specs.Relax.{zeros_at}
use Rattle.theory.specs.Rank.{live_ranks}
use Rattle.columns.specs.Columns.{shape, delay_at, Limits, Short}
use Rattle.simulation.specs.declared.group.Groups.{Groups}
use Rattle.simulation.specs.Groups.{Within, Grouped, Rearranged, Bounded, grouped_ends, grouped_rising}
use Rattle.simulation.specs.Order.{Ranked, Complete}
use Rattle.simulation.specs.Rows.{at, Pull, Plan, Rows}

-- a list of zeros has no rule's number above 0
pub zeros_low : (L j : ℕ) → get_or {A = ℕ} (replicate L 0) j 0 < 2048
zeros_low L j = omega (arith, zeros_at L j)

module _
    (source target offset delay : List ℕ)
    (m n : ℕ)
    (limits : Limits source target offset m n)
    (rules : List ℕ)
    (G : Groups)
    (grouped : Grouped target m n rules G.first)
    (new : Rearranged source offset delay rules G.sources G.offsets G.delays m)
  where
    abbrev S : Shape
    S = shape source target offset m

    abbrev D : ℕ → ℕ
    D = delay_at delay

    place_low : (v j : ℕ) → v < n → Within G.first v j → j < m
    place_low v j l w = omega (arith, w.1, grouped_ends target m n rules G.first grouped (v + 1) (omega arith))

    -- place j of a group is a rule into its transition, with the same source, offset and delay
    pub record RuleOf (v j r : ℕ) : Type 0 where
      pub is_rule : r < m
      pub leads : get_or target r 0 ≡ v
      pub source_is : get_or G.sources j 0 ≡ get_or source r 0
      pub offset_is : get_or G.offsets j 0 ≡ get_or offset r 0
      pub delay_is : get_or G.delays j 0 ≡ get_or delay r 0

    pub group_rule : (v j : ℕ) → v < n → Within G.first v j → RuleOf v j (get_or rules j 0)
    group_rule v j l w =
        let b = place_low v j l w in
        let p = grouped.inside v j l w in
        record { is_rule = p.0; leads = p.1; source_is = new.source_is j b; offset_is = new.offset_is j b; delay_is = new.delay_is j b }

    pub groups_bounded : Bounded G n
    groups_bounded =
        record {
          few = limits.few_transitions;
          ends = λ v l. omega (arith, grouped_ends target m n rules G.first grouped (v + 1) (omega arith), limits.few_rules);
          rising = grouped_rising target m n rules G.first grouped;
          sources_low = λ v j l w. let r = group_rule v j l w in rw r.source_is (limits.fits (get_or rules j 0) r.is_rule).0;
        }

    pub groups_ranked : Live S → Ranked G n
    groups_ranked live =
        let (rank, rises) = live_ranks S n limits.fits live in
        record {
          rank = rank;
          rises = λ v j l w z.
              let r = group_rule v j l w in
              let up = rises (get_or rules j 0) r.is_rule (sym r.offset_is ∙ z) in
              rw (r.source_is, ← r.leads) up;
        }

    module _ (short : Short delay m) (order : List ℕ) where
      pub groups_plan : Complete G n order → Plan G order n
      groups_plan c =
          record {
            bounded = groups_bounded;
            complete = c;
            short = λ v j l w. let r = group_rule v j l w in rw r.delay_is (short (get_or rules j 0) r.is_rule);
          }

      -- THE ROWS ARE THE TIMES: a rule into v stands in the group of v, and what stands there is a rule into v
      module _ (N : ℕ) (X₀ X : List ℕ) (rows : Rows G order n N X₀ X) where
        T : ℕ → ℕ → ℕ
        T i v = at n X i v

        late_enough : (i v : ℕ) → i < N → v < n → (r : ℕ) → Acts S i v r → asked S D T i r ≤ T i v
        unfolding T
        late_enough i v a b r acts =
            let p = grouped.all r acts.is_rule (limits.fits r acts.is_rule).1 in
            let j = p.0 in
            let w : Within G.first v j = rw acts.target at p.1 in
            let q = group_rule v j b w in
            rw (← p.2, ← q.offset_is, ← q.source_is, ← q.delay_is)
            ((rows.times i v a b).all j w.0 w.1 (rw (q.offset_is, p.2) acts.reached))

        cause : (i v : ℕ) → v < n → Pull G (get_or G.first v 0) (get_or G.first (v + 1) 0) n i X (at n X i v) → Cause S D T i v
        unfolding T
        cause i v b p =
            let q = group_rule v p.place b (p.from_low, p.to_high) in
            record {
              rule = get_or rules p.place 0;
              acts = record { is_rule = q.is_rule; target = q.leads; reached = rw (← q.offset_is) p.reached };
              exact = rw (← q.offset_is, ← q.source_is, ← q.delay_is) p.exact;
            }

        pub rows_timed : Timed S D N n X₀ X
        unfolding T
        rows_timed =
            record {
              T = T;
              times = λ i v a b. record { late_enough = late_enough i v a b; no_later = ⊎_elim inl (λ p. inr (cause i v b p)) (rows.times i v a b).one };
              size = rows.size;
              rows = λ i v a b. refl;
              rest = rows.rest;
            }
