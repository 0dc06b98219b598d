-- The two ends: there is one of each, at the least and at the greatest delays; filling blanks moves neither outward.
-- Said once for every measure, of the period and of a transition's rate.
--
--   Steady S M                    == what this asks of a measure; period_steady: the period is one
--   low_unique, high_unique       there is one low end and one high end, from the definition alone
--   exact_unique, exact_exists    and one answer to whether they meet
--   range_unique                  so there is one range
--   low_is, high_is               blanks at the least give the low end, blanks at the greatest the high end
--   range_is                      and both give the range
--   low_at_least, high_at_greatest    and each end is the quotient there
--   given_exact                   without blanks the ends meet
--   exact_every, every_exact      the ends meet just where every filling gives one and the same quotient
--   low_inward, high_inward       filling blanks moves neither end outward
--   exact_stays                   and leaves an exact one as it is
--   high_keeps                    a schedule of the greatest delays keeps every rule under every filling
use Rattle.std.specs.Prelude.{◌≡◌, refl, Bool, true, false, List, ℕ, ◌*◌, ◌≤◌, ◌<◌}
use Rattle.std.proofs.Common.{sym, ◌∙◌, inl, inr, arith, le_antisymm, le_of_eq}
use Rattle.std.proofs.Math.Logic.{by_cases}
use Rattle.std.proofs.Math.Logic.Dec
use Rattle.std.proofs.Math.Decide.{ℕ_discrete}
use Rattle.model.specs.Shape.{Shape}
use Rattle.model.specs.Ratio.{Lowest}
use Rattle.model.specs.Period.{Period}
use Rattle.model.specs.Filling.{Ranges, Filling, Given}
use Rattle.model.specs.Ends.{Measure, LowEnd, HighEnd, Exact, Range, RangeOf, Narrows}
use Rattle.model.specs.Schedule.{Keeps}
use Rattle.theory.specs.Ratio.{lowest_unique}
use Rattle.theory.specs.Schedule.{keeps_shorter}
use Rattle.theory.specs.Period.{slower}
use Rattle.theory.specs.Filling.{Proper, low_filling, high_filling, given_one}

-- no quotient is over 0, and longer delays give no lower one
pub record Steady (S : Shape) (M : Measure) : Type 0 where
  pub q_pos : (D : ℕ → ℕ) (P Q : ℕ) → M D P Q → 0 < Q
  pub rising : (D E : ℕ → ℕ) → ((r : ℕ) → r < S.rules → D r ≤ E r) → (P Q P' Q' : ℕ) → M D P Q → M E P' Q' → P * Q' ≤ P' * Q

pub period_steady : (S : Shape) → Steady S (Period S)
period_steady S = record { q_pos = λ D P Q x. x.q_pos; rising = slower S }

pub exact_unique : {p q P Q p' q' P' Q' : ℕ} {e e' : Bool} → p ≡ p' → q ≡ q' → P ≡ P' → Q ≡ Q' → Exact p q P Q e → Exact p' q' P' Q' e' → e ≡ e'
exact_unique p q P Q (inl x) (inl y) = x.2 ∙ sym y.2
exact_unique p q P Q (inr x) (inr y) = x.1 ∙ sym y.1
exact_unique p q P Q (inl x) (inr y) = absurd (y.0 (sym p ∙ x.0 ∙ P, sym q ∙ x.1 ∙ Q))
exact_unique p q P Q (inr x) (inl y) = absurd (x.0 (p ∙ y.0 ∙ sym P, q ∙ y.1 ∙ sym Q))

pub exact_exists : (p q P Q : ℕ) → (e : Bool) × Exact p q P Q e
exact_exists p q P Q = by_cases (Dec.and (ℕ_discrete p P) (ℕ_discrete q Q)) (λ s. (true, inl (s.0, s.1, refl {a = true}))) (λ d. (false, inr (d, refl {a = false})))

same : {p q P Q p' q' P' Q' : ℕ} {e e' : Bool} → p ≡ p' → q ≡ q' → P ≡ P' → Q ≡ Q' → e ≡ e'
    → ◌≡◌ {A = Range} (record { low_p = p; low_q = q; high_p = P; high_q = Q; exact = e }) (record { low_p = p'; low_q = q'; high_p = P'; high_q = Q'; exact = e' })
same q1 q2 q3 q4 q5 = cc

module _ (S : Shape) (K : Ranges) (M : Measure) (steady : Steady S M) where
  pos : (D : ℕ → ℕ) {P Q : ℕ} → M D P Q → 0 < Q
  pos D x = steady.q_pos D _ _ x

  -- ONLY ONE OF EACH. Each is the least (the greatest), so they are one ratio; and it is in lowest terms.
  pub low_unique : (P Q P' Q' : ℕ) → LowEnd S K M P Q → LowEnd S K M P' Q' → (P ≡ P') × (Q ≡ Q')
  low_unique P Q P' Q' a b =
      lowest_unique P Q P' Q' (pos a.attained.D a.attained.given) (pos b.attained.D b.attained.given) a.attained.lowest b.attained.lowest
      (le_antisymm (a.least b.attained.D b.attained.fills P' Q' b.attained.given) (b.least a.attained.D a.attained.fills P Q a.attained.given))

  pub high_unique : (P Q P' Q' : ℕ) → HighEnd S K M P Q → HighEnd S K M P' Q' → (P ≡ P') × (Q ≡ Q')
  high_unique P Q P' Q' a b =
      lowest_unique P Q P' Q' (pos a.attained.D a.attained.given) (pos b.attained.D b.attained.given) a.attained.lowest b.attained.lowest
      (le_antisymm (b.greatest a.attained.D a.attained.fills P Q a.attained.given) (a.greatest b.attained.D b.attained.fills P' Q' b.attained.given))

  pub range_unique : (a b : Range) → RangeOf S K M a → RangeOf S K M b → a ≡ b
  range_unique a b x y =
      let l = low_unique _ _ _ _ x.low y.low in
      let h = high_unique _ _ _ _ x.high y.high in
      same l.0 l.1 h.0 h.1 (exact_unique l.0 l.1 h.0 h.1 x.meet y.meet)

  -- ATTAINED AT THE LEAST AND AT THE GREATEST DELAYS: longer delays give no lower quotient
  module _ (proper : Proper S K) where
    pub low_is : (P Q : ℕ) → M K.least P Q → Lowest P Q → LowEnd S K M P Q
    low_is P Q p l =
        record {
          attained = record { D = K.least; fills = low_filling S K proper; given = p; lowest = l };
          least = λ E f P' Q' q. steady.rising K.least E (λ r b. (f r b).0) P Q P' Q' p q;
        }

    pub high_is : (P Q : ℕ) → M K.greatest P Q → Lowest P Q → HighEnd S K M P Q
    high_is P Q p l =
        record {
          attained = record { D = K.greatest; fills = high_filling S K proper; given = p; lowest = l };
          greatest = λ E f P' Q' q. steady.rising E K.greatest (λ r b. (f r b).1) P' Q' P Q q p;
        }

    pub range_is : (p q P Q : ℕ) (e : Bool) → M K.least p q → Lowest p q → M K.greatest P Q → Lowest P Q → Exact p q P Q e → RangeOf S K M (record { low_p = p; low_q = q; high_p = P; high_q = Q; exact = e })
    range_is p q P Q e x l y h m = record { low = low_is p q x l; high = high_is P Q y h; meet = m }

    -- AND ONLY AT THAT QUOTIENT
    pub low_at_least : (P Q p q : ℕ) → LowEnd S K M P Q → M K.least p q → Lowest p q → M K.least P Q
    low_at_least P Q p q a x l = let e = low_unique P Q p q a (low_is p q x l) in rw (e.0, e.1) x

    pub high_at_greatest : (P Q p q : ℕ) → HighEnd S K M P Q → M K.greatest p q → Lowest p q → M K.greatest P Q
    high_at_greatest P Q p q a x l = let e = high_unique P Q p q a (high_is p q x l) in rw (e.0, e.1) x

  -- WITHOUT BLANKS the ends meet
  pub given_exact : Given S K → (P Q : ℕ) → LowEnd S K M P Q → HighEnd S K M P Q
  given_exact g P Q a =
      record {
        attained = a.attained;
        greatest = λ E f P' Q' q. steady.rising E a.attained.D (λ r b. le_of_eq (given_one S K g E a.attained.D f a.attained.fills r b)) P' Q' P Q q a.attained.given;
      }

  -- EXACT IS: one quotient under every filling
  pub exact_every : (P Q : ℕ) → LowEnd S K M P Q → HighEnd S K M P Q → (E : ℕ → ℕ) → Filling S K E → (P' Q' : ℕ) → M E P' Q' → P * Q' ≡ P' * Q
  exact_every P Q a b E f P' Q' q = le_antisymm (a.least E f P' Q' q) (b.greatest E f P' Q' q)

  pub every_exact : (P Q P' Q' : ℕ) → LowEnd S K M P Q → HighEnd S K M P' Q' → ((E : ℕ → ℕ) → Filling S K E → (p q : ℕ) → M E p q → P * q ≡ p * Q) → (P ≡ P') × (Q ≡ Q')
  every_exact P Q P' Q' a b same =
      lowest_unique P Q P' Q' (pos a.attained.D a.attained.given) (pos b.attained.D b.attained.given) a.attained.lowest b.attained.lowest (same b.attained.D b.attained.fills P' Q' b.attained.given)

-- THE SCHEDULE KEEPS EVERY RULE UNDER EVERY FILLING
pub high_keeps : (S : Shape) (K : Ranges) (P Q : ℕ) (X : List ℕ) → Keeps S K.greatest P Q X → (D : ℕ → ℕ) → Filling S K D → Keeps S D P Q X
high_keeps S K P Q X k D f = keeps_shorter S D K.greatest (λ r b. (f r b).1) P Q X k

-- DEMAND 3, LAST SENTENCE: between two lists of one shape, the second with some blanks filled. A filling of the second is one of the first.
module _ (S : Shape) (M : Measure) (steady : Steady S M) (K K' : Ranges) (narrows : Narrows S K K') where
  narrower : (D : ℕ → ℕ) → Filling S K' D → Filling S K D
  narrower D f r b = omega (arith, narrows r b, f r b)

  pub low_inward : (P Q P' Q' : ℕ) → LowEnd S K M P Q → LowEnd S K' M P' Q' → P * Q' ≤ P' * Q
  low_inward P Q P' Q' a b = a.least b.attained.D (narrower b.attained.D b.attained.fills) P' Q' b.attained.given

  pub high_inward : (P Q P' Q' : ℕ) → HighEnd S K M P Q → HighEnd S K' M P' Q' → P' * Q ≤ P * Q'
  high_inward P Q P' Q' a b = a.greatest b.attained.D (narrower b.attained.D b.attained.fills) P' Q' b.attained.given

  pub exact_stays : (P Q p q p' q' : ℕ) → LowEnd S K M P Q → HighEnd S K M P Q → LowEnd S K' M p q → HighEnd S K' M p' q' → ((p ≡ P) × (q ≡ Q)) × ((p' ≡ P) × (q' ≡ Q))
  exact_stays P Q p q p' q' a b c d = (
    lowest_unique p q P Q (steady.q_pos _ _ _ c.attained.given) (steady.q_pos _ _ _ a.attained.given) c.attained.lowest a.attained.lowest
        (le_antisymm (b.greatest c.attained.D (narrower c.attained.D c.attained.fills) p q c.attained.given) (low_inward P Q p q a c)),
    lowest_unique p' q' P Q (steady.q_pos _ _ _ d.attained.given) (steady.q_pos _ _ _ b.attained.given) d.attained.lowest b.attained.lowest
        (le_antisymm (high_inward P Q p' q' b d) (a.least d.attained.D (narrower d.attained.D d.attained.fills) p' q' d.attained.given)),
  )
