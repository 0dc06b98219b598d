-- How a table is read: as the model's rules, and as what is known of their delays. Only the places below m are looked at.
--
--   used t           the rules of t: its first m places
--   delay_meant d        a delay of the table as the model's
--   shape_of t        the rules of t without their delays
--   ranges_of t       the least and the greatest delay that each may have
--   Blank t r        rule r of t has an unknown delay
--
-- Laws: used_rule (a rule in use is the one in its place), within_fits, within_offsets, within_delays (a table within its limits is what the theory asks for),
-- used_same (tables with the same rules in use are read alike).
use Rattle.std.specs.Prelude.{◌≡◌, List, ℕ, ◌≤◌, ◌<◌, get_or, take}
use Rattle.std.proofs.Common.{sym, ap, ◌∙◌, subst, le_refl, get_or-take}
use Rattle.model.specs.Shape.{Shape, Fits}
use Rattle.model.specs.Filling.{Ranges, ranges, greatest_of}
use Rattle.model.specs.Filling as model
use Rattle.table.specs.Limits.{max_offset, max_delay}
use Rattle.table.specs.Form.{unused_rule, rule_of}
use Rattle.table.specs.Fields.{DelayOk, Within}
use Rattle.table.specs.declared.Delay.{Delay}
use Rattle.table.specs.declared.Delay.TheVariants.{Known, Unknown}
use Rattle.table.specs.declared.Rule.{Rule}
use Rattle.table.specs.declared.Table.{Table}

-- the rules of t
abbrev pub used : Table → List Rule
used t = take t.m t.rules

-- known stays known, with its value, and unknown unknown
abbrev pub delay_meant : Delay → model.Delay
delay_meant Unknown = model.unknown
delay_meant (Known d) = model.known d

-- m rules, each with its source, target and offset
abbrev pub shape_of : Table → Shape
shape_of t =
    record {
      rules = t.m;
      source = λ r. (get_or (used t) r unused_rule).source;
      target = λ r. (get_or (used t) r unused_rule).target;
      offset = λ r. (get_or (used t) r unused_rule).offset;
    }

-- an unknown delay may be anything up to the highest
abbrev pub ranges_of : Table → Ranges
ranges_of t = ranges max_delay (λ r. delay_meant (get_or (used t) r unused_rule).delay)

-- rule r has a blank
abbrev pub Blank : Table → ℕ → Type 0
Blank t r = (r < t.m) × ((get_or (used t) r unused_rule).delay ≡ Unknown)

-- what lies in a place in use
pub used_rule : (t : Table) (r : ℕ) → r < t.m → get_or (used t) r unused_rule ≡ rule_of t r
used_rule t r b = get_or-take t.m t.rules r unused_rule b

-- UNUSED PLACES NEVER MATTER: a table is read by its rules in use alone
pub used_same : (t t' : Table) → t.m ≡ t'.m → used t ≡ used t' → (shape_of t ≡ shape_of t') × (ranges_of t ≡ ranges_of t')
used_same t t' e u = (
  ap (λ (m : ℕ). record { rules = m; source = λ r. (get_or (used t) r unused_rule).source; target = λ r. (get_or (used t) r unused_rule).target; offset = λ r. (get_or (used t) r unused_rule).offset }) e
      ∙ ap (λ (rs : List Rule). record { rules = t'.m; source = λ r. (get_or rs r unused_rule).source; target = λ r. (get_or rs r unused_rule).target; offset = λ r. (get_or rs r unused_rule).offset }) u,
  ap (λ (rs : List Rule). ranges max_delay (λ r. delay_meant (get_or rs r unused_rule).delay)) u,
)

module _ (t : Table) (w : Within t) where
  pub within_fits : Fits (shape_of t) t.n
  within_fits r b = (subst (λ (x : Rule). x.source < t.n) (sym (used_rule t r b)) (w.rule r b).source, subst (λ (x : Rule). x.target < t.n) (sym (used_rule t r b)) (w.rule r b).target)

  pub within_offsets : (r : ℕ) → r < t.m → (shape_of t).offset r ≤ max_offset
  within_offsets r b = subst (λ (x : Rule). x.offset ≤ max_offset) (sym (used_rule t r b)) (w.rule r b).offset

  pub within_delays : (r : ℕ) → r < t.m → (ranges_of t).greatest r ≤ max_delay
  within_delays r b = at (get_or (used t) r unused_rule).delay (subst (λ (x : Rule). DelayOk x.delay) (sym (used_rule t r b)) (w.rule r b).delay)
    where
      at : (d : Delay) → DelayOk d → greatest_of max_delay (delay_meant d) ≤ max_delay
      at Unknown h = le_refl max_delay
      at (Known d) h = h
