-- The search for the first blank, and a table without one as columns.
--
--   BlankAt t r     == r is the lowest rule of t with an unknown delay, or none where no delay is unknown
--   timed_same      times ask for the delays of rules alone
--   columns_live, columns_timed   what is said of a table's columns is said of the table
--   timed_columns                 what is said of the columns lent with their least delays is said of the columns
use Rattle.std.specs.Prelude.{◌≡◌, ◌≢◌, Bool, List, ℕ, ◌+◌, ◌<◌, get_or, Option, Some, None}
use Rattle.std.proofs.Common.{sym, ap, ◌∙◌, subst, inl, inr, ⊎_elim, arith}
use Rattle.std.proofs.Math.Logic.{by_cases}
use Rattle.std.proofs.Math.Decide.{ℕ_discrete}
use Rattle.model.specs.Shape.{Shape}
use Rattle.model.specs.Loop.{Live}
use Rattle.model.specs.Times.{Cause, IsTime, Timed}
use Rattle.table.specs.declared.Delay.TheVariants.{Unknown}
use Rattle.table.specs.declared.Rule.{Rule}
use Rattle.table.specs.declared.Table.{Table}
use Rattle.table.specs.Form.{unused_rule, rule_of}
use Rattle.table.specs.Meaning.{used, shape_of, Blank, used_rule}
use Rattle.columns.specs.Columns.{shape, delay_at}
use Rattle.columns.specs.declared.Columns.{Columns}
use Rattle.columns.specs.declared.rules.Filled.{Filled}
use Rattle.columns.specs.Views.{of_columns, of_filled, delays_of}
use Rattle.columns.specs.Lay.{Laid, laid_shape, laid_least}
use Rattle.simulation.specs.Simulation.{delays, NoBlank, FirstBlank}

abbrev pub BlankAt : Table → Option ℕ → Type 0
BlankAt t (Some r) = FirstBlank t r
BlankAt t None = NoBlank t

-- no rule below r has a blank
pub record KnownTo (t : Table) (r : ℕ) : Type 0 where
  pub each : (q : ℕ) → q < r → ¬ (Blank t q)

module _ (t : Table) where
  pub known_start : KnownTo t 0
  known_start = record { each = λ q l b. omega arith }

  pub known_step : (r : ℕ) → r < t.m → (rule_of t r).delay ≢ Unknown → KnownTo t r → KnownTo t (r + 1)
  known_step r l d old =
      record {
        each = λ q a b.
            by_cases (ℕ_discrete q r)
            (λ s. d (ap (λ (x : Rule). x.delay) (sym (used_rule t r l)) ∙ subst (λ x. (get_or (used t) x unused_rule).delay ≡ Unknown) s b.1))
            (λ n. old.each q (omega arith) b);
      }

  pub blank_here : (r : ℕ) → r < t.m → (rule_of t r).delay ≡ Unknown → KnownTo t r → FirstBlank t r
  blank_here r l e old = record { blank = (l, ap (λ (x : Rule). x.delay) (used_rule t r l) ∙ e); before = old.each }

  pub blank_none : KnownTo t t.m → NoBlank t
  blank_none old q b = old.each q b.0 b

-- delays that agree on the rules have the same times
module _ (S : Shape) (D E : ℕ → ℕ) (same : (r : ℕ) → r < S.rules → D r ≡ E r) where
  cause_same : (T : ℕ → ℕ → ℕ) (i v : ℕ) → Cause S D T i v → Cause S E T i v
  cause_same T i v c = record { rule = c.rule; acts = c.acts; exact = omega (arith, c.exact, same c.rule c.acts.is_rule) }

  time_same : (T : ℕ → ℕ → ℕ) (i v : ℕ) → IsTime S D T i v → IsTime S E T i v
  time_same T i v x =
      record {
        late_enough = λ r h. omega (arith, x.late_enough r h, same r h.is_rule);
        no_later = ⊎_elim inl (λ c. inr (cause_same T i v c)) x.no_later;
      }

  pub timed_same : (N n : ℕ) (out₀ out : List ℕ) → Timed S D N n out₀ out → Timed S E N n out₀ out
  timed_same N n out₀ out x =
      record { T = x.T; times = λ i v a b. time_same x.T i v (x.times i v a b); size = x.size; rows = x.rows; rest = x.rest }

module _ (t : Table) (source target offset least greatest : List ℕ) (blank : Bool) (laid : Laid t t.m source target offset least greatest blank) where
  pub columns_live : Live (shape_of t) → Live (shape source target offset t.m)
  columns_live live = subst Live (sym (laid_shape t source target offset least greatest blank laid)) live

  pub columns_timed : (N n : ℕ) (out₀ out : List ℕ) → Timed (shape source target offset t.m) (delay_at least) N n out₀ out → Timed (shape_of t) (delays t) N n out₀ out
  columns_timed N n out₀ out x =
      timed_same (shape_of t) (delay_at least) (delays t) (laid_least t source target offset least greatest blank laid) N n out₀ out
      (subst (λ (S : Shape). Timed S (delay_at least) N n out₀ out) (laid_shape t source target offset least greatest blank laid) x)

pub timed_columns : (c : Columns) (r : Filled) → (r.source.now ≡ c.source) × (r.target.now ≡ c.target) × (r.offset.now ≡ c.offset) → r.delay.now ≡ c.least
    → (r.m ≡ c.m) × (r.n ≡ c.n) → (N : ℕ) (out₀ out : List ℕ) → Timed (of_filled r) (delays_of r) N r.n out₀ out
    → Timed (of_columns c) (delay_at c.least) N c.n out₀ out
timed_columns c r e d z N out₀ out h = rw (e.0, e.1, e.2, d, z.0, z.1) at h
