-- What the exported call for two bids promises: that of `bids::better`, with the part as the number of its file and its length, since a part starts its file.
--
--   flat_bids f w p r       what C gets: a refusal f and its place p, which file w, and the length of the part r
--   BidsFrom x y c         THE PROMISE for the files x and y
--
-- Theorems: bids_from_unique (one outcome), bids_from_part (which bytes the part is, and where it lies). Step: bids_made.
use Rattle.std.specs.Prelude.{ℕ, ◌≡◌, refl, length, take}
use Rattle.std.proofs.Common.{sym, ap, ◌∙◌, subst, take_all, arith}
use Rattle.bids.specs.declared.Choice.{Choice}
use Rattle.bids.specs.declared.Choice.TheVariants.{Neither, First, Second}
use Rattle.bids.specs.Promise.{Bid, choice_of, File, Handed, BetterOf, better_unique}
use Rattle.cperiod.specs.declared.PeriodBids.{PeriodBids}

abbrev pub flat_bids : ℕ → ℕ → ℕ → File → PeriodBids
flat_bids f w p r = record { refusal = f; which = w; place = p; length = length r.now }

pub record BidsFrom (x y : File) (c : PeriodBids) : Type 0 where
  pub part : File
  pub is_better : BetterOf x y part c.which c.refusal c.place
  pub size : c.length ≡ length part.now

-- ONLY ONE OUTCOME
pub bids_from_unique : (x y : File) (c d : PeriodBids) → BidsFrom x y c → BidsFrom x y d → c ≡ d
bids_from_unique x y c d a b =
    let e = better_unique x y a.part b.part c.which d.which c.refusal d.refusal c.place d.place a.is_better b.is_better in
    same c d e.refusal e.which e.place (a.size ∙ ap length e.bytes ∙ sym b.size)
  where
    same : (c d : PeriodBids) → c.refusal ≡ d.refusal → c.which ≡ d.which → c.place ≡ d.place → c.length ≡ d.length → c ≡ d
    same c d e f g h i = record { refusal = e i; which = f i; place = g i; length = h i }

-- the part r starts the file z, and is its first n bytes
abbrev pub Starts : File → File → ℕ → Type 0
Starts r z n = (r.ref_ptr ≡ z.ref_ptr) × (r.now ≡ take n z.now)

-- THE PART STARTS THE FILE THAT `which` NAMES
pub bids_from_part : (x y : File) (c : PeriodBids) (a : BidsFrom x y c) → (c.which ≡ 0 → Starts a.part x c.length) × (c.which ≡ 1 → Starts a.part y c.length)
bids_from_part x y c a = at (choice_of a.is_better.first a.is_better.second) a.is_better.first a.is_better.handed
  where
    whole : (z : File) → a.part ≡ z → Starts a.part z c.length
    whole z e = (
      ap (λ (s : File). s.ref_ptr) e,
      ap (λ (s : File). s.now) e ∙ sym (take_all c.length z.now (omega (arith, a.size, ap (λ (s : File). length s.now) e))),
    )

    at : (k : Choice) (b : Bid) → Handed k b x y a.part c.which c.refusal c.place
        → (c.which ≡ 0 → Starts a.part x c.length) × (c.which ≡ 1 → Starts a.part y c.length)
    at Neither b h = (
      λ e. (h.1, h.0 ∙ sym (ap (λ (n : ℕ). take n x.now) (a.size ∙ ap length h.0))),
      λ e. absurd (omega (arith, h.2)),
    )
    at First b h = (λ e. whole x h.0, λ e. absurd (omega (arith, h.1)))
    at Second b h = (λ e. absurd (omega (arith, h.1)), λ e. whole y h.0)

-- what the code makes of the part
pub bids_made : (x y r : File) (w v f p : ℕ) → BetterOf x y r w f p → v ≡ w → BidsFrom x y (flat_bids f v p r)
bids_made x y r w v f p h e = record { part = r; is_better = subst (λ (u : ℕ). BetterOf x y r u f p) (sym e) h; size = refl }
