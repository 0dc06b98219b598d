-- The ratio to start from: at 256,000,000/1, which no loop is above, each transition takes the rule that asks most of it.
-- A value is kept 15 turns higher than it is, so that none is below 0.
--
--   lift                        == 15 turns
--   Bids i s t e a most         == rule i, from s to t with offset e and delay a, may ask: no sum wraps
--   Bid i s t most₀ par₀ most par   == t has what it asks, with i for its parent, or what it had
--   Bidding S most par k        == the values and parents after k rules
--   bid_made, bidding_start, bidding_skip, bidding_bids, bidding_on       the loop over the rules
use Rattle.std.specs.Prelude.{◌≡◌, refl, ◌⊎◌, List, ℕ, suc, ◌+◌, ◌*◌, ◌-◌, ◌≤◌, ◌<◌, length, get_or, set, replicate}
use Rattle.std.proofs.Common.{ap, ⊎_elim, arith, length-set, get_or-set_same, get_or-set_other}
use Rattle.std.proofs.Math.Logic.{by_cases}
use Rattle.std.proofs.Math.Decide.{ℕ_discrete}
use Rattle.std.proofs.lemmas.List.{length-replicate}
use Rattle.model.specs.Shape.{Shape}
use Rattle.theory.specs.Relax.{zeros_at}
use Rattle.columns.specs.Columns.{shape, Limits, Short}
use Rattle.search.specs.Search.{Valid}

abbrev pub lift : ℕ
lift = 3840000000

pub record Bids (i s t e a : ℕ) (most : List ℕ) : Type 0 where
  pub rule_low : i < 2048
  pub source_low : s < 256
  pub target_low : t < 256
  pub offset_low : e ≤ 15
  pub delay_low : a ≤ 1000000
  pub value_low : get_or most s 0 ≤ 8000000000

pub record Bid (i s t : ℕ) (most₀ par₀ most par : List ℕ) : Type 0 where
  pub value : ℕ
  pub parent : ℕ
  pub low : (b : ℕ) → lift ≤ b → get_or most₀ s 0 ≤ b → get_or most₀ t 0 ≤ b → value ≤ b + 1000001
  pub old_or_new : (parent ≡ get_or par₀ t 0) ⊎ (parent ≡ i + 1)
  pub most_is : most ≡ set most₀ t value
  pub par_is : par ≡ set par₀ t parent

pub record Bidding (S : Shape) (most par : List ℕ) (k : ℕ) : Type 0 where
  pub room : length most ≡ 256
  pub par_room : length par ≡ 256
  pub valid : Valid S par
  pub low : (v : ℕ) → get_or most v 0 ≤ lift + k * 1000001

-- what a transition has then is what it had, or at most what the source has, or 15 turns, and a delay and 1
pub bid_made : {i s t : ℕ} {most par : List ℕ} (e a r y z : ℕ) → ((b : ℕ) → lift ≤ b → get_or most s 0 ≤ b → r ≤ b) → a ≤ 1000000
    → (y ≡ get_or most t 0) ⊎ (y ≡ r + a + 1 - 256000000 * e) → (z ≡ get_or par t 0) ⊎ (z ≡ i + 1) → Bid i s t most par (set most t y) (set par t z)
bid_made e a r y z low short had old =
    record {
      value = y;
      parent = z;
      low = λ b l v w. ⊎_elim (λ k. omega arith) (λ k. omega (arith, low b l v)) had;
      old_or_new = old;
      most_is = refl;
      par_is = refl;
    }

pub bidding_start : {S : Shape} → Bidding S (replicate 256 0) (replicate 256 0) 0
bidding_start =
    record {
      room = length-replicate {A = ℕ} 256 0;
      par_room = length-replicate {A = ℕ} 256 0;
      valid = λ v r e. absurd (omega (arith, zeros_at 256 v));
      low = λ v. omega (arith, zeros_at 256 v);
    }

pub bidding_skip : {S : Shape} {most par : List ℕ} {k : ℕ} → Bidding S most par k → Bidding S most par (k + 1)
bidding_skip h = record { room = h.room; par_room = h.par_room; valid = h.valid; low = λ v. omega (arith, h.low v) }

module _ {source target offset most par : List ℕ} {m n i k : ℕ} (delay : List ℕ) (limits : Limits source target offset m n) (short : Short delay m) (is_rule : i < m) (few : k < 2048)
    (h : Bidding (shape source target offset m) most par k) where
  pub bidding_bids : Bids i (get_or source i 0) (get_or target i 0) (get_or offset i 0) (get_or delay i 0) most
  bidding_bids =
      record {
        rule_low = omega (arith, limits.few_rules);
        source_low = omega (arith, limits.fits i is_rule, limits.few_transitions);
        target_low = omega (arith, limits.fits i is_rule, limits.few_transitions);
        offset_low = limits.small_offsets i is_rule;
        delay_low = short i is_rule;
        value_low = omega (arith, h.low (get_or source i 0));
      }

  pub bidding_on : {most' par' : List ℕ} → Bid i (get_or source i 0) (get_or target i 0) most par most' par' → Bidding (shape source target offset m) most' par' (k + 1)
  bidding_on {most'} {par'} bid =
      rw (bid.most_is, bid.par_is)
      (record {
        room = simp length-set h.room;
        par_room = simp length-set h.par_room;
        valid = λ v r e. by_cases (ℕ_discrete v t) (λ s. ⊎_elim (old v r e s) (new v r e s) bid.old_or_new) (λ d. h.valid v r (rw (get_or-set_other par t v bid.parent 0 d) at e));
        low = λ v.
            by_cases (ℕ_discrete v t)
            (λ s. rw (s, get_or-set_same most t bid.value 0 (omega (arith, inside, h.room)))
            (omega (arith, bid.low (lift + k * 1000001) (omega arith) (h.low (get_or source i 0)) (h.low t))))
            (λ d. rw (get_or-set_other most t v bid.value 0 d) (omega (arith, h.low v)));
      })
    where
      t : ℕ
      t = get_or target i 0

      inside : t < 256
      inside = omega (arith, limits.fits i is_rule, limits.few_transitions)

      set_here : get_or (set par t bid.parent) t 0 ≡ bid.parent
      set_here = get_or-set_same par t bid.parent 0 (omega (arith, inside, h.par_room))

      old : (v r : ℕ) → get_or (set par t bid.parent) v 0 ≡ suc r → v ≡ t → bid.parent ≡ get_or par t 0 → (r < m) × (get_or target r 0 ≡ v)
      old v r e s o = rw s (h.valid t r (omega (arith, o, set_here, ap (λ u. get_or (set par t bid.parent) u 0) s)))

      new : (v r : ℕ) → get_or (set par t bid.parent) v 0 ≡ suc r → v ≡ t → bid.parent ≡ i + 1 → (r < m) × (get_or target r 0 ≡ v)
      new v r e s o =
          let same : r ≡ i = omega (arith, o, set_here, ap (λ u. get_or (set par t bid.parent) u 0) s) in
          rw (same, s) (is_rule, refl)
