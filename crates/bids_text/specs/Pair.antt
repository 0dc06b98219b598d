-- The text that the program prints for two bids: each bid's ends or refusal, one under the other, and which is the better.
--
--   ends_line b          the bid's period or refusal, as `report` prints it
--   bid_line_of name b      a name, then that line
--   better_line_of c        `better first`, `better second`, or `better neither`
--   pair_text l          the three lines
--   PairOf s t r        THE PROMISE of `side_by_side`: r holds the text for the files s and t
--
-- Theorems: pair_unique (one outcome), pair_first (the first bytes of each file decide), pair_part (where the text stands). Steps: line_refused, -exact, -range.
use Rattle.std.specs.Prelude.{◌≡◌, true, false, List, ◌++◌, ℕ, ◌+◌, ◌≤◌, ◌<◌, ltb, length, take}
use Rattle.std.proofs.Common.{ap, lt-ltb, le-ltb}
use Rattle.sevens.specs.Sevens.{Bytes}
use Rattle.rulefile.specs.Length.{longest}
use Rattle.bids.specs.declared.Choice.{Choice}
use Rattle.bids.specs.declared.Choice.TheVariants.{Neither, First, Second}
use Rattle.bids.specs.Promise.{Bid, Laid, LaidOf, laid_unique, bid_first}
use Rattle.words.specs.declared.Text.{Text}
use Rattle.words.specs.Decimal.{ascii, pick}
use Rattle.words.specs.Lines.{refused_line_of, exact_line_of, range_line_of}
use Rattle.words.specs.Held.{Holds, held_unique, holds_part}

abbrev pub ends_line : Bid → List ℕ
ends_line b =
    pick (ltb 0 b.refusal) (refused_line_of b.refusal b.place)
    (pick b.exact (exact_line_of b.high.p b.high.q) (range_line_of b.low.p b.low.q b.high.p b.high.q))

abbrev pub bid_line_of : List ℕ → Bid → List ℕ
bid_line_of name b = name ++ ends_line b

abbrev pub better_line_of : Choice → List ℕ
better_line_of Neither = ascii "better neither\n"
better_line_of First = ascii "better first\n"
better_line_of Second = ascii "better second\n"

abbrev pub pair_text : Laid → List ℕ
pair_text l = bid_line_of (ascii "first ") l.first ++ (bid_line_of (ascii "second ") l.second ++ better_line_of l.choice)

pub record PairOf (s t : List ℕ) (r : Text) : Type 0 where
  pub laid : Laid
  pub is_laid : LaidOf s t laid
  pub is_held : Holds r (pair_text laid)

-- ONLY ONE OUTCOME
pub pair_unique : (s t : List ℕ) (r r' : Text) → PairOf s t r → PairOf s t r' → r ≡ r'
pair_unique s t r r' a b = held_unique _ _ r r' (ap pair_text (laid_unique s t a.laid b.laid a.is_laid b.is_laid)) a.is_held b.is_held

-- THE FIRST BYTES DECIDE: the text for `longest + 1` bytes of each file, or more, is the text for the whole files
pub pair_first : (s t : List ℕ) (j k : ℕ) → Bytes s → Bytes t → longest + 1 ≤ j → longest + 1 ≤ k → (r : Text) → PairOf (take j s) (take k t) r → PairOf s t r
pair_first s t j k is it h i r a =
    record {
      laid = a.laid;
      is_laid =
          record {
            first = bid_first s j is h a.laid.first a.is_laid.first;
            second = bid_first t k it i a.laid.second a.is_laid.second;
            choice = a.is_laid.choice;
          };
      is_held = a.is_held;
    }

-- THE TEXT IS THE FIRST `len` BYTES, and these are there
pub pair_part : (s t : List ℕ) (r : Text) (a : PairOf s t r) → (r.len ≤ length r.bytes) × (r.len ≡ length (take r.len r.bytes)) × (take r.len r.bytes ≡ pair_text a.laid)
pair_part s t r a = holds_part r (pair_text a.laid) a.is_held

-- ---- the three forms of a bid's line

module _ (b : Bid) where
  pub line_refused : 0 < b.refusal → refused_line_of b.refusal b.place ≡ ends_line b
  line_refused l = simp (lt-ltb 0 b.refusal l)

  pub line_exact : b.refusal ≤ 0 → b.exact ≡ true → exact_line_of b.high.p b.high.q ≡ ends_line b
  line_exact l e = simp (le-ltb 0 b.refusal l, e)

  pub line_range : b.refusal ≤ 0 → b.exact ≡ false → range_line_of b.low.p b.low.q b.high.p b.high.q ≡ ends_line b
  line_range l e = simp (le-ltb 0 b.refusal l, e)
