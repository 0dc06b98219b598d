-- Two rule files side by side, and the better of the two. To be read beside document 02, ticket 1.
--
--   Bid, Laid                       what is known of a bid, with number 0 and place 0 or those of its refusal; of two bids, and the better one
--   told_bid x, told_laid l         the same, from the code's own results x and l
--   refused_bid f p, answered_bid a   refused with number f at place p, and all else 0; or the two ends of the answer a
--   judged_bid v                     the same for the verdict v on its table: numbers of refusal are the paper's
--   TableBid t b, ReadBid g b       b is what is known of a bid with the table t; of one of which g was read
--   BidOf s b                       THE PROMISE of `ends`: b is what is known of the bid with the bytes s
--   choice_of a b                    the better of two bids; at equal high ends the first; neither, where neither can be analysed
--   LaidOf s t l                    THE PROMISE of `side_by_side`
--   File                            a lent file: where it lies (ref_ptr) and its bytes (now)
--   Chosen z u r w f p              the part r is the file z, number u of the two; no refusal
--   Handed c a x y r w f p          what is handed back for the choice c between the files x and y, where a is known of x: the part r, the number w of its
--                                   file, 0 or 1, a refusal f and its place p
--   BetterOf x y r w f p            THE PROMISE of `better`
--
-- Theorems: bid_unique, laid_unique, better_unique (one outcome each); laid_told (what is told says all); bid_first (the first bytes of a file decide).
use Rattle.std.specs.Prelude.{◌≡◌, Bool, false, Result, Ok, Err, List, [], ℕ, ◌+◌, ◌*◌, ◌≤◌, ◌<◌, ltb, take}
use Rattle.std.proofs.Common.{sym, ap, ◌∙◌, subst, arith}
use Rattle.std.proofs.Math.Logic.{by_cases}
use Rattle.std.proofs.Math.Decide.{dec_lt}
use Rattle.std.specs.Borrow.{Bor}
use Rattle.model.specs.Answer.{Answer}
use Rattle.refusals.specs.declared.Refusal.{Refusal}
use Rattle.refusals.specs.Number.{number_of}
use Rattle.sevens.specs.Sevens.{pick, Bytes}
use Rattle.table.specs.declared.Table.{Table}
use Rattle.rulefile.specs.declared.FileRead.{FileRead}
use Rattle.rulefile.specs.File.{read_of}
use Rattle.rulefile.specs.Length.{longest}
use Rattle.rulefile.specs.First.{first_bytes}
use Rattle.engine.specs.declared.Ratio.{Ratio}
use Rattle.engine.specs.declared.Range.{Range}
use Rattle.engine.specs.Verdict.{Verdict, outside, knotted, flat, wide, found, Judges, verdict_unique}
use Rattle.bids.specs.declared.Choice.{Choice}
use Rattle.bids.specs.declared.Choice.TheVariants.{Neither, First, Second}
use Rattle.bids.specs.declared.Laid.{Laid as Given}

-- ------------------------------------------------------------------------------------------------------------------------------------- one bid

-- Refused: number and place, and all else 0. Else both ends, and whether they meet.
pub record Bid : Type 0 where
  pub refusal : ℕ
  pub place : ℕ
  pub exact : Bool
  pub low : Ratio
  pub high : Ratio

abbrev pub ratio : ℕ → ℕ → Ratio
ratio p q = record { p = p; q = q }

abbrev pub refused_bid : ℕ → ℕ → Bid
refused_bid f p = record { refusal = f; place = p; exact = false; low = ratio 0 0; high = ratio 0 0 }

-- what is told by the ends of a bid, or by its refusal
abbrev pub told_bid : Result Range Refusal → Bid
told_bid (Ok r) = record { refusal = 0; place = 0; exact = r.exact; low = r.low; high = r.high }
told_bid (Err e) = refused_bid (number_of e.why) e.place

abbrev pub answered_bid : Answer → Bid
answered_bid a = record { refusal = 0; place = 0; exact = a.ends.exact; low = ratio a.ends.low_p a.ends.low_q; high = ratio a.ends.high_p a.ends.high_q }

-- no buffer is lent, so the verdict decides: 3, then 5, 6, 11. Of a table that was read 3 never comes: it is within the limits.
abbrev pub judged_bid : Verdict → Bid
judged_bid (outside k) = refused_bid 3 k
judged_bid (knotted u) = refused_bid 5 u
judged_bid flat = refused_bid 6 0
judged_bid wide = refused_bid 11 0
judged_bid (found a) = answered_bid a

pub record TableBid (t : Table) (b : Bid) : Type 0 where
  pub verdict : Verdict
  pub judged : Judges t verdict
  pub result : b ≡ judged_bid verdict

-- a refusal of reading comes before those of analysis
pub record ReadBid (g : FileRead) (b : Bid) : Type 0 where
  pub refused : 0 < g.refusal → b ≡ refused_bid g.refusal g.place
  pub accepted : g.refusal ≤ 0 → TableBid g.table b

abbrev pub BidOf : List ℕ → Bid → Type 0
BidOf s b = ReadBid (read_of s) b

-- ONLY ONE OUTCOME
pub bid_unique : (s : List ℕ) (a b : Bid) → BidOf s a → BidOf s b → a ≡ b
bid_unique s a b x y =
    by_cases (dec_lt 0 (read_of s).refusal)
    (λ l. x.refused l ∙ sym (y.refused l))
    (λ l.
    let p = x.accepted (omega arith) in
    let q = y.accepted (omega arith) in
    p.result ∙ ap judged_bid (verdict_unique (read_of s).table p.verdict q.verdict p.judged q.judged) ∙ sym q.result)

-- THE FIRST BYTES DECIDE: what is known from `longest + 1` bytes of a file, or more, is what is known from the whole file
pub bid_first : (s : List ℕ) (k : ℕ) → Bytes s → longest + 1 ≤ k → (b : Bid) → BidOf (take k s) b → BidOf s b
bid_first s k is h b a = subst (λ (g : FileRead). ReadBid g b) (first_bytes s k is h) a

-- ------------------------------------------------------------------------------------------------------------------------------- the better one

-- the high end of b is below that of a: ratios are compared by cross products
abbrev pub lower : Bid → Bid → Bool
lower b a = ltb (b.high.p * a.high.q) (a.high.p * b.high.q)

-- one that cannot be analysed is passed over; of two that can, the second is better only if its high end is lower
abbrev pub choice_of : Bid → Bid → Choice
choice_of a b =
    pick (ltb 0 a.refusal)
    (pick (ltb 0 b.refusal) Neither Second)
    (pick (ltb 0 b.refusal) First (pick (lower b a) Second First))

pub record Laid : Type 0 where
  pub first : Bid
  pub second : Bid
  pub choice : Choice

abbrev pub told_laid : Given → Laid
told_laid l = record { first = told_bid l.first; second = told_bid l.second; choice = l.choice }

-- WHAT IS TOLD SAYS ALL: two bids and the choice between them are told as no others, if a bid is (bid_told_once in demands/Once)
pub laid_told : ((x y : Result Range Refusal) → told_bid x ≡ told_bid y → x ≡ y) → (l m : Given) → told_laid l ≡ told_laid m → l ≡ m
laid_told once l m e =
    same l m (once l.first m.first (ap (λ (z : Laid). z.first) e)) (once l.second m.second (ap (λ (z : Laid). z.second) e)) (ap (λ (z : Laid). z.choice) e)
  where
    same : (l m : Given) → l.first ≡ m.first → l.second ≡ m.second → l.choice ≡ m.choice → l ≡ m
    same l m f g c i = record { first = f i; second = g i; choice = c i }

pub record LaidOf (s t : List ℕ) (l : Laid) : Type 0 where
  pub first : BidOf s l.first
  pub second : BidOf t l.second
  pub choice : l.choice ≡ choice_of l.first l.second

-- ONLY ONE OUTCOME
pub laid_unique : (s t : List ℕ) (l m : Laid) → LaidOf s t l → LaidOf s t m → l ≡ m
laid_unique s t l m x y =
    let e = bid_unique s l.first m.first x.first y.first in
    let f = bid_unique t l.second m.second x.second y.second in
    let g : l.choice ≡ m.choice = x.choice ∙ ap (λ a. choice_of a l.second) e ∙ ap (choice_of m.first) f ∙ sym y.choice in
    same l m e f g
  where
    same : (l m : Laid) → l.first ≡ m.first → l.second ≡ m.second → l.choice ≡ m.choice → l ≡ m
    same l m e f g i = record { first = e i; second = f i; choice = g i }

-- ------------------------------------------------------------------------------------------------------------------------------ what is handed back

abbrev pub File : Type 0
File = Bor (List ℕ)

-- the file z itself, which is number u of the two, and no refusal
abbrev pub Chosen : File → ℕ → File → ℕ → ℕ → ℕ → Type 0
Chosen z u r w f p = (r ≡ z) × (w ≡ u) × (f ≡ 0) × (p ≡ 0)

-- where neither can be analysed, the empty part at the first file's start, number 0, and that file's refusal and place
abbrev pub Handed : Choice → Bid → File → File → File → ℕ → ℕ → ℕ → Type 0
Handed Neither a x y r w f p = (r.now ≡ []) × (r.ref_ptr ≡ x.ref_ptr) × (w ≡ 0) × (f ≡ a.refusal) × (p ≡ a.place)
Handed First a x y r w f p = Chosen x 0 r w f p
Handed Second a x y r w f p = Chosen y 1 r w f p

pub record BetterOf (x y r : File) (w f p : ℕ) : Type 0 where
  pub first : Bid
  pub second : Bid
  pub is_first : BidOf x.now first
  pub is_second : BidOf y.now second
  pub handed : Handed (choice_of first second) first x y r w f p

-- a part is where it lies and the bytes that stand there
pub record Same (r r' : File) (w w' f f' p p' : ℕ) : Type 0 where
  pub place_of : r.ref_ptr ≡ r'.ref_ptr
  pub bytes : r.now ≡ r'.now
  pub which : w ≡ w'
  pub refusal : f ≡ f'
  pub place : p ≡ p'

chosen_same : (z : File) (u : ℕ) (r r' : File) (w w' f f' p p' : ℕ) → Chosen z u r w f p → Chosen z u r' w' f' p' → Same r r' w w' f f' p p'
chosen_same z u r r' w w' f f' p p' h k =
    let e = h.0 ∙ sym k.0 in
    record { place_of = ap (λ (z : File). z.ref_ptr) e; bytes = ap (λ (z : File). z.now) e; which = h.1 ∙ sym k.1; refusal = h.2 ∙ sym k.2; place = h.3 ∙ sym k.3 }

handed_same : (c : Choice) (a : Bid) (x y r r' : File) (w w' f f' p p' : ℕ) → Handed c a x y r w f p → Handed c a x y r' w' f' p' → Same r r' w w' f f' p p'
handed_same Neither a x y r r' w w' f f' p p' h k =
    record { place_of = h.1 ∙ sym k.1; bytes = h.0 ∙ sym k.0; which = h.2 ∙ sym k.2; refusal = h.3 ∙ sym k.3; place = h.4 ∙ sym k.4 }
handed_same First a x y r r' w w' f f' p p' h k = chosen_same x 0 r r' w w' f f' p p' h k
handed_same Second a x y r r' w w' f f' p p' h k = chosen_same y 1 r r' w w' f f' p p' h k

-- ONLY ONE OUTCOME
pub better_unique : (x y r r' : File) (w w' f f' p p' : ℕ) → BetterOf x y r w f p → BetterOf x y r' w' f' p' → Same r r' w w' f f' p p'
better_unique x y r r' w w' f f' p p' h k =
    let e = bid_unique x.now h.first k.first h.is_first k.is_first in
    let g = bid_unique y.now h.second k.second h.is_second k.is_second in
    handed_same (choice_of h.first h.second) h.first x y r r' w w' f f' p p' h.handed
    (subst (λ (a : Bid). Handed (choice_of a h.second) a x y r' w' f' p') (sym e)
    (subst (λ (b : Bid). Handed (choice_of k.first b) k.first x y r' w' f' p') (sym g) k.handed))
