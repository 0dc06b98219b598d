-- What the columns say of a table.
--
--   Column f i xs      == the first i places of xs hold f, the others 0
--   Laid t i ..        == the columns of the first i rules of t: the rules, the least and the greatest delays, and whether any differ
--   laid_start, laid_next         columns are filled rule by rule
--   laid_shape, laid_least, laid_greatest    what the columns say is what the table says
use Rattle.std.specs.Prelude.{◌≡◌, refl, Bool, false, List, [], ◌∷◌, ℕ, zero, suc, ◌+◌, ◌≤◌, ◌<◌, length, get_or, set, take, replicate}
use Rattle.std.proofs.Common.{sym, ap, ◌∙◌, inl, inr, arith, length-set, get_or-set_same, get_or-set_other}
use Rattle.std.proofs.Math.Path.{fun_ext}
use Rattle.std.proofs.Math.Logic.{by_cases}
use Rattle.std.proofs.Math.Decide.{ℕ_discrete, dec_lt}
use Rattle.std.proofs.lemmas.List.{length-replicate}
use Rattle.model.specs.Shape.{Shape}
use Rattle.model.specs.Filling.{least_of, greatest_of}
use Rattle.table.specs.declared.Delay.{Delay}
use Rattle.table.specs.declared.Delay.TheVariants.{Known, Unknown}
use Rattle.table.specs.declared.Rule.{Rule}
use Rattle.table.specs.declared.Table.{Table}
use Rattle.table.specs.Limits.{max_delay}
use Rattle.table.specs.Form.{unused_rule, rule_of}
use Rattle.refusals.specs.Number.{Told}
use Rattle.table.specs.Fields.{DelayOk, Within, FirstBad, Judged}
use Rattle.table.specs.Meaning.{used, delay_meant, shape_of, ranges_of, used_rule, within_delays}
use Rattle.columns.specs.Columns.{shape, Limits, Ordered}

pub record Column (f : ℕ → ℕ) (i : ℕ) (xs : List ℕ) : Type 0 where
  pub size : length xs ≡ 2048
  pub filled : (r : ℕ) → r < i → get_or xs r 0 ≡ f r
  pub rest : (r : ℕ) → i ≤ r → get_or xs r 0 ≡ 0

zeros_at : (n v : ℕ) → get_or {A = ℕ} (replicate n 0) v 0 ≡ 0
zeros_at zero v = refl
zeros_at (suc n) zero = refl
zeros_at (suc n) (suc v) = zeros_at n v

pub column_start : (f : ℕ → ℕ) → Column f 0 (replicate 2048 0)
column_start f = record { size = length-replicate {A = ℕ} 2048 0; filled = λ r b. absurd (omega arith); rest = λ r b. zeros_at 2048 r }

pub column_next : (f : ℕ → ℕ) (i x : ℕ) (xs : List ℕ) → Column f i xs → i < 2048 → x ≡ f i → Column f (i + 1) (set xs i x)
column_next f i x xs c b e =
    record {
      size = simp length-set c.size;
      filled = λ r l. by_cases (ℕ_discrete r i) (λ s. rw s (get_or-set_same xs i x 0 (omega (arith, c.size)) ∙ e)) (λ d. get_or-set_other xs i r x 0 d ∙ c.filled r (omega arith));
      rest = λ r l. get_or-set_other xs i r x 0 (λ s. omega (arith, s)) ∙ c.rest r (omega arith);
    }

-- the fields of rule r, in its place
abbrev pub source_of : Table → ℕ → ℕ
source_of t r = (rule_of t r).source

abbrev pub target_of : Table → ℕ → ℕ
target_of t r = (rule_of t r).target

abbrev pub offset_of : Table → ℕ → ℕ
offset_of t r = (rule_of t r).offset

abbrev pub least_at : Table → ℕ → ℕ
least_at t r = least_of (delay_meant (rule_of t r).delay)

abbrev pub greatest_at : Table → ℕ → ℕ
greatest_at t r = greatest_of max_delay (delay_meant (rule_of t r).delay)

-- the columns of the first i rules
pub record Laid (t : Table) (i : ℕ) (source target offset least greatest : List ℕ) (blank : Bool) : Type 0 where
  pub sources : Column (source_of t) i source
  pub targets : Column (target_of t) i target
  pub offsets : Column (offset_of t) i offset
  pub leasts : Column (least_at t) i least
  pub greatests : Column (greatest_at t) i greatest
  pub no_blank : blank ≡ false → (r : ℕ) → r < i → least_at t r ≡ greatest_at t r

pub laid_start : (t : Table) → Laid t 0 (replicate 2048 0) (replicate 2048 0) (replicate 2048 0) (replicate 2048 0) (replicate 2048 0) false
laid_start t =
    record {
      sources = column_start (source_of t);
      targets = column_start (target_of t);
      offsets = column_start (offset_of t);
      leasts = column_start (least_at t);
      greatests = column_start (greatest_at t);
      no_blank = λ e r b. absurd (omega arith);
    }

pub laid_next : (t : Table) (i : ℕ) (s g o l h : List ℕ) (b b' : Bool) (x y z d e : ℕ) → Laid t i s g o l h b → i < 2048
    → (x ≡ source_of t i) × (y ≡ target_of t i) × (z ≡ offset_of t i) → (d ≡ least_at t i) × (e ≡ greatest_at t i)
    → (b' ≡ false → (b ≡ false) × (d ≡ e)) → Laid t (i + 1) (set s i x) (set g i y) (set o i z) (set l i d) (set h i e) b'
laid_next t i s g o l h b b' x y z d e c low w v given =
    record {
      sources = column_next (source_of t) i x s c.sources low w.0;
      targets = column_next (target_of t) i y g c.targets low w.1;
      offsets = column_next (offset_of t) i z o c.offsets low w.2;
      leasts = column_next (least_at t) i d l c.leasts low v.0;
      greatests = column_next (greatest_at t) i e h c.greatests low v.1;
      no_blank = λ f r a. by_cases (ℕ_discrete r i) (λ k. rw k (sym v.0 ∙ (given f).1 ∙ v.1)) (λ k. c.no_blank (given f).0 r (omega arith));
    }

-- what a delay may be is in order
pub ordered : (d : Delay) → least_of (delay_meant d) ≤ greatest_of max_delay (delay_meant d)
ordered Unknown = omega arith
ordered (Known d) = omega arith

-- and no more than a delay may be
pub greatest_short : (d : Delay) → DelayOk d → greatest_of max_delay (delay_meant d) ≤ max_delay
greatest_short Unknown h = omega arith
greatest_short (Known d) h = h

-- a column of a field of the rules is that field of the rules in use
column_used : (t : Table) (f : Rule → ℕ) → f unused_rule ≡ 0 → (xs : List ℕ) → Column (λ r. f (rule_of t r)) t.m xs → (r : ℕ) → get_or xs r 0 ≡ f (get_or (used t) r unused_rule)
column_used t f z xs c r =
    by_cases (dec_lt r t.m)
    (λ b. c.filled r b ∙ ap f (sym (used_rule t r b)))
    (λ b. c.rest r (omega arith) ∙ sym z ∙ ap f (sym (past t.m t.rules r (omega arith))))
  where
    past : (m : ℕ) (xs : List Rule) (r : ℕ) → m ≤ r → get_or (take m xs) r unused_rule ≡ unused_rule
    past zero xs r b = refl
    past (suc m) [] r b = refl
    past (suc m) (x ∷ xs) zero b = absurd (omega arith)
    past (suc m) (x ∷ xs) (suc r) b = past m xs r (omega arith)

abbrev made : ℕ → (ℕ → ℕ) → (ℕ → ℕ) → (ℕ → ℕ) → Shape
made m s g o = record { rules = m; source = s; target = g; offset = o }

-- THE COLUMNS SAY WHAT THE TABLE SAYS
pub laid_shape : (t : Table) (s g o l h : List ℕ) (b : Bool) → Laid t t.m s g o l h b → shape s g o t.m ≡ shape_of t
laid_shape t s g o l h b c =
    ap (λ f. made t.m f (λ r. get_or g r 0) (λ r. get_or o r 0)) (fun_ext (column_used t (λ (x : Rule). x.source) refl s c.sources))
    ∙ ap (λ f. made t.m (shape_of t).source f (λ r. get_or o r 0)) (fun_ext (column_used t (λ (x : Rule). x.target) refl g c.targets))
    ∙ ap (λ f. made t.m (shape_of t).source (shape_of t).target f) (fun_ext (column_used t (λ (x : Rule). x.offset) refl o c.offsets))

module _ (t : Table) (s g o l h : List ℕ) (b : Bool) (c : Laid t t.m s g o l h b) where
  pub laid_least : (r : ℕ) → r < t.m → get_or l r 0 ≡ (ranges_of t).least r
  laid_least r d = c.leasts.filled r d ∙ ap (λ (x : Rule). least_of (delay_meant x.delay)) (sym (used_rule t r d))

  pub laid_greatest : (r : ℕ) → r < t.m → get_or h r 0 ≡ (ranges_of t).greatest r
  laid_greatest r d = c.greatests.filled r d ∙ ap (λ (x : Rule). greatest_of max_delay (delay_meant x.delay)) (sym (used_rule t r d))

-- what a check of the table leaves to know
pub judged_outside : (t : Table) (x : Told) → Judged t x → 0 < x.refusal → FirstBad t x.place × (x.refusal ≡ 3)
judged_outside t x (inl a) b = absurd (omega (arith, a.1))
judged_outside t x (inr a) b = a

pub judged_within : (t : Table) (x : Told) → Judged t x → x.refusal ≤ 0 → Within t
judged_within t x (inl a) b = a.0
judged_within t x (inr a) b = absurd (omega (arith, a.1))

-- the columns of a table within its limits
module _ (t : Table) (w : Within t) (s g o l h : List ℕ) (b : Bool) (c : Laid t t.m s g o l h b) where
  pub laid_limits : Limits s g o t.m t.n
  laid_limits =
      record {
        few_rules = w.m_high;
        some_transition = w.n_low;
        few_transitions = w.n_high;
        fits = λ r d. (omega (arith, c.sources.filled r d, (w.rule r d).source), omega (arith, c.targets.filled r d, (w.rule r d).target));
        small_offsets = λ r d. omega (arith, c.offsets.filled r d, (w.rule r d).offset);
      }

  pub laid_ordered : Ordered l h t.m b
  laid_ordered =
      record {
        short_least = λ r d. omega (arith, c.leasts.filled r d, ordered (rule_of t r).delay, within_delays t w r d, laid_greatest t s g o l h b c r d, c.greatests.filled r d);
        short_greatest = λ r d. omega (arith, laid_greatest t s g o l h b c r d, within_delays t w r d);
        in_order = λ r d. omega (arith, c.leasts.filled r d, c.greatests.filled r d, ordered (rule_of t r).delay);
        no_blank = λ e r d. c.leasts.filled r d ∙ c.no_blank e r d ∙ sym (c.greatests.filled r d);
      }
