-- The promise in the words of the definitions: where both files can be analysed, their high ends decide.
--
--   bid_found     what is known of a bid that can be analysed is its answer's ends
--   lower_end     THE LOWER HIGH END comes back, and at equal ends the first
use Rattle.std.specs.Prelude.{◌≡◌, ℕ, ◌*◌, ◌≤◌, ◌<◌, List}
use Rattle.std.proofs.Common.{sym, ap, ◌∙◌, subst, arith, lt-ltb, le-ltb}
use Rattle.model.specs.Answer.{Answer}
use Rattle.rulefile.specs.File.{read_of}
use Rattle.engine.specs.Verdict.{found, Judges, verdict_unique}
use Rattle.bids.specs.declared.Choice.{Choice}
use Rattle.bids.specs.Promise.{Bid, answered_bid, judged_bid, BidOf, choice_of, File, Handed, BetterOf}
use Rattle.bids.specs.Steps.{choice_second, choice_first}

pub bid_found : (s : List ℕ) (b : Bid) (a : Answer) → BidOf s b → (read_of s).refusal ≡ 0 → Judges (read_of s).table (found a) → b ≡ answered_bid a
bid_found s b a x e j =
    let t = x.accepted (omega arith) in
    t.result ∙ ap judged_bid (verdict_unique (read_of s).table t.verdict (found a) t.judged j)

-- the high ends are those that `Answers` speaks of: the greatest period over all fillings of each table
pub lower_end : (x y r : File) (w f p : ℕ) → BetterOf x y r w f p → (read_of x.now).refusal ≡ 0 → (read_of y.now).refusal ≡ 0
    → (a b : Answer) → Judges (read_of x.now).table (found a) → Judges (read_of y.now).table (found b)
    → (a.ends.high_p * b.ends.high_q ≤ b.ends.high_p * a.ends.high_q → (r ≡ x) × (w ≡ 0)) × (b.ends.high_p * a.ends.high_q < a.ends.high_p * b.ends.high_q → (r ≡ y) × (w ≡ 1))
lower_end x y r w f p h e g a b j k = (
  λ l. let z = subst (λ (c : Choice). Handed c h.first x y r w f p) (choice ∙ sym (choice_first (answered_bid a) (answered_bid b) (omega arith) (omega arith) (le-ltb _ _ l))) h.handed in (z.0, z.1),
  λ l. let z = subst (λ (c : Choice). Handed c h.first x y r w f p) (choice ∙ sym (choice_second (answered_bid a) (answered_bid b) (omega arith) (omega arith) (lt-ltb _ _ l))) h.handed in (z.0, z.1),
)
  where
    choice : choice_of h.first h.second ≡ choice_of (answered_bid a) (answered_bid b)
    choice =
        ap (λ (c : Bid). choice_of c h.second) (bid_found x.now h.first a h.is_first e j)
        ∙ ap (choice_of (answered_bid a)) (bid_found y.now h.second b h.is_second g k)
