-- Whether every loop of a table turns, as `turns` tells it.
--
--   TurnOf t r      == THE PROMISE of `turns`: refused 3 at the first field outside its limits, or 5 at the knot; or every loop turns, and 0 at 0
--   turn_unique     it has one outcome
use Rattle.std.specs.Prelude.{◌≡◌, refl, Bool, ◌⊎◌, List, ℕ, ◌≤◌, ◌<◌, get_or, take}
use Rattle.std.proofs.Common.{sym, ap, ◌∙◌, subst, inl, inr}
use Rattle.model.specs.Shape.{Shape}
use Rattle.model.specs.Loop.{Live}
use Rattle.model.specs.Knot.{Knot}
use Rattle.theory.specs.Knot.{knot_unique, knot_not_live, first_knot}
use Rattle.table.specs.declared.Table.{Table}
use Rattle.table.specs.Fields.{Within, FirstBad, within_not_bad, first_bad_unique}
use Rattle.table.specs.Meaning.{shape_of}
use Rattle.refusals.specs.Number.{Told}
use Rattle.columns.specs.Columns.{shape}
use Rattle.loops.specs.Found.{FoundFirst}
use Rattle.columns.specs.Lay.{Laid, laid_shape}
use Rattle.engine.specs.Lap.{ends_live}

-- one case each
abbrev pub TurnOf : Table → Told → Type 0
TurnOf t r =
    (FirstBad t r.place × (r.refusal ≡ 3))
    ⊎ ((Within t × Knot (shape_of t) r.place × (r.refusal ≡ 5)) ⊎ (Within t × Live (shape_of t) × (r.refusal ≡ 0) × (r.place ≡ 0)))

same : (r s : Told) → r.refusal ≡ s.refusal → r.place ≡ s.place → r ≡ s
same r s e f = ap (λ x. record { refusal = x; place = r.place }) e ∙ ap (λ x. record { refusal = s.refusal; place = x }) f

-- ONLY ONE OUTCOME
pub turn_unique : (t : Table) (r s : Told) → TurnOf t r → TurnOf t s → r ≡ s
turn_unique t r s (inl a) (inl b) = same r s (a.1 ∙ sym b.1) (first_bad_unique t r.place s.place a.0 b.0)
turn_unique t r s (inl a) (inr (inl b)) = absurd (within_not_bad t r.place b.0 a.0)
turn_unique t r s (inl a) (inr (inr b)) = absurd (within_not_bad t r.place b.0 a.0)
turn_unique t r s (inr (inl a)) (inl b) = absurd (within_not_bad t s.place a.0 b.0)
turn_unique t r s (inr (inl a)) (inr (inl b)) = same r s (a.2 ∙ sym b.2) (knot_unique (shape_of t) r.place s.place a.1 b.1)
turn_unique t r s (inr (inl a)) (inr (inr b)) = absurd (knot_not_live (shape_of t) r.place a.1 b.1)
turn_unique t r s (inr (inr a)) (inl b) = absurd (within_not_bad t s.place a.0 b.0)
turn_unique t r s (inr (inr a)) (inr (inl b)) = absurd (knot_not_live (shape_of t) s.place b.1 a.1)
turn_unique t r s (inr (inr a)) (inr (inr b)) = same r s (a.2 ∙ sym b.2) (a.3 ∙ sym b.3)

-- how the search on columns ends
pub turn_knotted : (t : Table) → Within t → (s g o l h : List ℕ) (b : Bool) → Laid t t.m s g o l h b → (len at : ℕ) (rules : List ℕ)
    → FoundFirst (shape s g o t.m) (λ i. get_or o i 0 ≡ 0) t.n len at rules → 0 < len → TurnOf t (record { refusal = 5; place = at })
turn_knotted t w s g o l h b c len at rules f some =
    inr (inl (w, subst (λ (S : Shape). Knot S at) (laid_shape t s g o l h b c) (first_knot (shape s g o t.m) at (take len rules) (f.some some)), refl))

pub turn_live : (t : Table) → Within t → (s g o l h : List ℕ) (b : Bool) → Laid t t.m s g o l h b → (len at : ℕ) (rules : List ℕ)
    → FoundFirst (shape s g o t.m) (λ i. get_or o i 0 ≡ 0) t.n len at rules → len ≤ 0 → TurnOf t (record { refusal = 0; place = 0 })
turn_live t w s g o l h b c len at rules f none = inr (inr (w, subst (λ (S : Shape). Live S) (laid_shape t s g o l h b c) (ends_live f none), refl, refl))
