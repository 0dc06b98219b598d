-- DEMAND 3, LAST SENTENCE: filling any blank never moves an end outward and never alters an exact period; the same lists are refused.
--
--   FilledDelay d d'    == d' is d, or d is unknown and d' known, within the limits
--   Filled t t'         == t' is t with some blanks filled
--   EndsInward a b      == the ends of b lie within those of a, and an exact a stays; ends_inward: so they do where delays are narrowed
--   Inward v w          == what filling may do to a verdict: nothing to a refusal; an answer's ends move inward, and an exact one stays
--   filled_inward       THE THEOREM, between the verdicts on two such tables
use Rattle.std.specs.Prelude.{◌≡◌, refl, true, List, [], ◌∷◌, ℕ, zero, suc, ◌*◌, ◌/◌, ◌%◌, ◌≤◌, ◌<◌, get_or, take}
use Rattle.std.proofs.Common.{sym, ap, ◌∙◌, subst, true≢false, ⊎_elim, arith}
use Rattle.std.proofs.Math.Path.{fun_ext}
use Rattle.std.proofs.Math.Logic.{by_cases}
use Rattle.std.proofs.Math.Decide.{dec_lt}
use Rattle.model.specs.Shape.{Shape}
use Rattle.model.specs.Loop.{NoLoop, Live}
use Rattle.model.specs.Knot.{Knot}
use Rattle.model.specs.Filling.{Ranges, least_of, greatest_of}
use Rattle.model.specs.Period.{Period}
use Rattle.model.specs.Ends.{Measure, HighEnd, Range, RangeOf, Narrows}
use Rattle.model.specs.Answer.{Answer, Answers}
use Rattle.theory.specs.Ends.{Steady, period_steady, low_inward, high_inward, exact_stays}
use Rattle.table.specs.declared.Delay.{Delay}
use Rattle.table.specs.declared.Delay.TheVariants.{Known, Unknown}
use Rattle.table.specs.declared.Rule.{Rule}
use Rattle.table.specs.declared.Table.{Table}
use Rattle.table.specs.Limits.{max_delay}
use Rattle.table.specs.Form.{unused_rule, rule_of}
use Rattle.table.specs.Fields.{DelayOk, RuleOk, Ok, fields, Within, FirstBad, within_ok, ok_within, within_not_bad}
use Rattle.table.specs.Meaning.{used, delay_meant, shape_of, ranges_of, used_rule}
use Rattle.engine.specs.Verdict.{Verdict, outside, knotted, flat, wide, found, Judges, never_wide_at, verdict_unique}

abbrev pub FilledDelay : Delay → Delay → Type 0
FilledDelay (Known d) (Known e) = e ≡ d
FilledDelay (Known d) Unknown = ⊥
FilledDelay Unknown (Known e) = e ≤ max_delay
FilledDelay Unknown Unknown = Unit {0}

pub record FilledRule (x y : Rule) : Type 0 where
  pub source : y.source ≡ x.source
  pub target : y.target ≡ x.target
  pub offset : y.offset ≡ x.offset
  pub delay : FilledDelay x.delay y.delay

pub record Filled (t t' : Table) : Type 0 where
  pub n_same : t'.n ≡ t.n
  pub m_same : t'.m ≡ t.m
  pub rules : (r : ℕ) → r < t.m → FilledRule (rule_of t r) (rule_of t' r)

-- the ends of b lie within those of a; and where those meet, so do these, at the same quotient
abbrev pub EndsInward : Range → Range → Type 0
EndsInward a b =
    (a.low_p * b.low_q ≤ b.low_p * a.low_q) × (b.high_p * a.high_q ≤ a.high_p * b.high_q)
    × (a.exact ≡ true → (b.low_p ≡ a.low_p) × (b.low_q ≡ a.low_q) × (b.high_p ≡ a.high_p) × (b.high_q ≡ a.high_q) × (b.exact ≡ true))

abbrev pub Inward : Verdict → Verdict → Type 0
Inward (outside j) w = w ≡ outside j
Inward (knotted u) w = w ≡ knotted u
Inward flat w = w ≡ flat
Inward wide w = w ≡ wide
Inward (found a) (outside k) = ⊥
Inward (found a) (knotted u) = ⊥
Inward (found a) flat = ⊥
Inward (found a) wide = ⊥
Inward (found a) (found b) = EndsInward a.ends b.ends

-- between two ranges of delays, the second the narrower: of the period, and of a transition's rate
pub ends_inward : (S : Shape) (M : Measure) → Steady S M → (K K' : Ranges) → Narrows S K K' → (a b : Range) → RangeOf S K M a → RangeOf S K' M b → EndsInward a b
ends_inward S M steady K K' narrows a b x y =
    (low_inward S M steady K K' narrows _ _ _ _ x.low y.low, high_inward S M steady K K' narrows _ _ _ _ x.high y.high, stays)
  where
    stays : a.exact ≡ true → (b.low_p ≡ a.low_p) × (b.low_q ≡ a.low_q) × (b.high_p ≡ a.high_p) × (b.high_q ≡ a.high_q) × (b.exact ≡ true)
    stays e =
        let m : (a.low_p ≡ a.high_p) × (a.low_q ≡ a.high_q) = ⊎_elim (λ k. (k.0, k.1)) (λ k. absurd (true≢false (sym e ∙ k.1))) x.meet in
        let same : HighEnd S K M a.low_p a.low_q = rw (m.0, m.1) x.high in
        let s = exact_stays S M steady K K' narrows _ _ _ _ _ _ x.low same y.low y.high in (
          s.0.0,
          s.0.1,
          s.1.0 ∙ m.0,
          s.1.1 ∙ m.1,
          ⊎_elim (λ k. k.2) (λ k. absurd (k.0 (s.0.0 ∙ sym s.1.0, s.0.1 ∙ sym s.1.1))) y.meet,
        )

-- --------------------------------------------------------------------------------------------------------------------------------- the fields

delay_ok : (d e : Delay) → FilledDelay d e → DelayOk d → DelayOk e
delay_ok (Known d) (Known e) f o = omega (arith, f)
delay_ok (Known d) Unknown f o = tt
delay_ok Unknown (Known e) f o = f
delay_ok Unknown Unknown f o = tt

delay_back : (d e : Delay) → FilledDelay d e → DelayOk e → DelayOk d
delay_back (Known d) (Known e) f o = omega (arith, f)
delay_back (Known d) Unknown f o = absurd f
delay_back Unknown e f o = tt

rule_ok : (n n' : ℕ) (x y : Rule) → n' ≡ n → FilledRule x y → (j : ℕ) → RuleOk n x j → RuleOk n' y j
rule_ok n n' x y e f zero o = omega (arith, f.source)
rule_ok n n' x y e f (suc zero) o = omega (arith, f.target)
rule_ok n n' x y e f (suc (suc zero)) o = omega (arith, f.offset)
rule_ok n n' x y e f (suc (suc (suc j))) o = delay_ok x.delay y.delay f.delay o

rule_back : (n n' : ℕ) (x y : Rule) → n' ≡ n → FilledRule x y → (j : ℕ) → RuleOk n' y j → RuleOk n x j
rule_back n n' x y e f zero o = omega (arith, f.source)
rule_back n n' x y e f (suc zero) o = omega (arith, f.target)
rule_back n n' x y e f (suc (suc zero)) o = omega (arith, f.offset)
rule_back n n' x y e f (suc (suc (suc j))) o = delay_back x.delay y.delay f.delay o

module _ (t t' : Table) (f : Filled t t') where
  ok_filled : (k : ℕ) → k < fields t → Ok t k → Ok t' k
  ok_filled zero b o = omega (arith, f.n_same)
  ok_filled (suc zero) b o = omega (arith, f.m_same)
  ok_filled (suc (suc k)) b o = rule_ok t.n t'.n (rule_of t (k / 4)) (rule_of t' (k / 4)) f.n_same (f.rules (k / 4) (omega arith)) (k % 4) o

  ok_back : (k : ℕ) → k < fields t → Ok t' k → Ok t k
  ok_back zero b o = omega (arith, f.n_same)
  ok_back (suc zero) b o = omega (arith, f.m_same)
  ok_back (suc (suc k)) b o = rule_back t.n t'.n (rule_of t (k / 4)) (rule_of t' (k / 4)) f.n_same (f.rules (k / 4) (omega arith)) (k % 4) o

  pub bad_filled : (k : ℕ) → FirstBad t k → FirstBad t' k
  bad_filled k b =
      record {
        counted = omega (arith, b.counted, f.m_same);
        bad = λ o. b.bad (ok_back k b.counted o);
        before = λ j l. ok_filled j (omega (arith, b.counted)) (b.before j l);
      }

  pub within_filled : Within t → Within t'
  within_filled w = ok_within t' (λ k b. let c : k < fields t = omega (arith, f.m_same) in ok_filled k c (within_ok t w k c))

  -- ------------------------------------------------------------------------------------------------------------------------------ the rules

  past : (m : ℕ) (xs : List Rule) (r : ℕ) → m ≤ r → get_or (take m xs) r unused_rule ≡ unused_rule
  past zero xs r b = refl
  past (suc m) [] r b = refl
  past (suc m) (x ∷ xs) zero b = absurd (omega arith)
  past (suc m) (x ∷ xs) (suc r) b = past m xs r (omega arith)

  -- a field that filling leaves is the same in use
  field_same : (g : Rule → ℕ) → ((x y : Rule) → FilledRule x y → g y ≡ g x) → (r : ℕ) → g (get_or (used t) r unused_rule) ≡ g (get_or (used t') r unused_rule)
  field_same g keeps r =
      by_cases (dec_lt r t.m)
      (λ b. ap g (used_rule t r b) ∙ sym (keeps (rule_of t r) (rule_of t' r) (f.rules r b)) ∙ ap g (sym (used_rule t' r (omega (arith, f.m_same)))))
      (λ b. ap g (past t.m t.rules r (omega arith)) ∙ ap g (sym (past t'.m t'.rules r (omega (arith, f.m_same)))))

  pub shape_filled : shape_of t ≡ shape_of t'
  shape_filled =
      ap (λ (m : ℕ). record { rules = m; source = (shape_of t).source; target = (shape_of t).target; offset = (shape_of t).offset }) (sym f.m_same)
      ∙ ap (λ (g : ℕ → ℕ). record { rules = t'.m; source = g; target = (shape_of t).target; offset = (shape_of t).offset }) (fun_ext (field_same (λ (x : Rule). x.source) (λ x y h. h.source)))
      ∙ ap (λ (g : ℕ → ℕ). record { rules = t'.m; source = (shape_of t').source; target = g; offset = (shape_of t).offset }) (fun_ext (field_same (λ (x : Rule). x.target) (λ x y h. h.target)))
      ∙ ap (λ (g : ℕ → ℕ). record { rules = t'.m; source = (shape_of t').source; target = (shape_of t').target; offset = g }) (fun_ext (field_same (λ (x : Rule). x.offset) (λ x y h. h.offset)))

  narrow_delay : (d e : Delay) → DelayOk d → FilledDelay d e → (least_of (delay_meant d) ≤ least_of (delay_meant e)) × (greatest_of max_delay (delay_meant e) ≤ greatest_of max_delay (delay_meant d))
  narrow_delay (Known d) (Known e) o h = (omega (arith, h), omega (arith, h))
  narrow_delay (Known d) Unknown o h = absurd h
  narrow_delay Unknown (Known e) o h = (omega arith, h)
  narrow_delay Unknown Unknown o h = (omega arith, omega arith)

  pub narrows_filled : Within t → Narrows (shape_of t) (ranges_of t) (ranges_of t')
  narrows_filled w r b =
      let a = narrow_delay (rule_of t r).delay (rule_of t' r).delay (w.rule r b).delay (f.rules r b).delay in
      let e = ap (λ (x : Rule). x.delay) (used_rule t r b) in
      let e' = ap (λ (x : Rule). x.delay) (used_rule t' r (omega (arith, f.m_same))) in
      rw (e, e') a

  -- ------------------------------------------------------------------------------------------------------------------------------ the theorem

  -- the answer for the second table, read with the shape of the first
  inward : (a b : Answer) → Within t → Answers (shape_of t) (ranges_of t) t.n a → Answers (shape_of t) (ranges_of t') t'.n b → Inward (found a) (found b)
  inward a b w x y =
      ends_inward (shape_of t) (Period (shape_of t)) (period_steady (shape_of t)) (ranges_of t) (ranges_of t') (narrows_filled w) a.ends b.ends x.ends y.ends

  pub filled_inward : (v w : Verdict) → Judges t v → Judges t' w → Inward v w
  filled_inward (outside k) w j j' = verdict_unique t' w (outside k) j' (bad_filled k j)
  filled_inward (knotted u) w j j' = verdict_unique t' w (knotted u) j' (within_filled j.0, subst (λ (S : Shape). Knot S u) shape_filled j.1)
  filled_inward flat w j j' =
      verdict_unique t' w flat j' (within_filled j.0, subst (λ (S : Shape). Live S) shape_filled j.1, subst (λ (S : Shape). NoLoop S) shape_filled j.2)
  filled_inward wide w j j' = absurd (never_wide_at t j.0 j.2.0 j.2.1 j.2.2)
  filled_inward (found a) (outside k) j j' = absurd (within_not_bad t' k (within_filled j.0) j')
  filled_inward (found a) (knotted u) j j' = absurd (turn (subst (λ (S : Shape). Live S) shape_filled j.1))
    where
      turn : Live (shape_of t') → ⊥
      turn live = omega (arith, live u j'.1.loop j'.1.is_loop, j'.1.no_turn)
  filled_inward (found a) flat j j' =
      let p = j.2.ends.low.attained.given in
      absurd (subst (λ (S : Shape). NoLoop S) (sym shape_filled) j'.2 p.at p.loop p.is_loop)
  filled_inward (found a) wide j j' = absurd (never_wide_at t' j'.0 j'.2.0 j'.2.1 j'.2.2)
  filled_inward (found a) (found b) j j' = inward a b j.0 j.2 (subst (λ (S : Shape). Answers S (ranges_of t') t'.n b) (sym shape_filled) j'.2)
