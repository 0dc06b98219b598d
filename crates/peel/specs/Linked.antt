-- Rules linked by one of their ends, and a row of transitions.
--
--   Linked Alike column len head next
--                                 == the rules at each transition in a list, the last first: head v and next r hold 1 more than a rule, or 0. A rule may be
--                                    passed over where it is Alike to the one in the list after it
--   NoneAlike q r                 == no two rules are: none is passed over
--   Points column len v p         == p is 0, or 1 more than a rule at v
--   points_most                   no rule is numbered higher than there are rules
--   points_first, points_last     the list of v begins with the last rule at v
--   points_rule, points_next, points_all   a step along it
--   linked_none, linked_last, linked_past   the loop that links them: at first; a rule after the last, or in its place
--   Row n order                   == 256 transitions below n
use Rattle.std.specs.Prelude.{◌≡◌, refl, ◌≢◌, List, ℕ, zero, suc, ◌+◌, ◌-◌, ◌≤◌, ◌<◌, length, get_or, set, replicate}
use Rattle.std.proofs.Common.{ap, sym, ◌∙◌, arith, length-set, get_or-set_same, get_or-set_other}
use Rattle.std.proofs.Math.Logic.{by_cases}
use Rattle.std.proofs.Math.Decide.{ℕ_discrete, dec_lt}
use Rattle.std.proofs.lemmas.List.{length-replicate}
use Rattle.theory.specs.Relax.{zeros_at}

-- the rules below len at each transition, linked from the last to the first; what stands between a rule and the next in the list is Alike to the rule
pub record Linked (Alike : ℕ → ℕ → Type 0) (column : List ℕ) (len : ℕ) (head next : List ℕ) : Type 0 where
  pub heads : length head ≡ 256
  pub nexts : length next ≡ 2048
  pub last : (r : ℕ) → r < len → r < get_or head (get_or column r 0) 0
  pub at : (v p : ℕ) → get_or head v 0 ≡ suc p → (p < len) × (get_or column p 0 ≡ v)
  pub before : (r q : ℕ) → r < len → q < r → get_or column q 0 ≡ get_or column r 0 → get_or next r 0 ≤ q → Alike q r
  pub on : (r p : ℕ) → r < len → get_or next r 0 ≡ suc p → (p < r) × (get_or column p 0 ≡ get_or column r 0)

-- no two rules are alike
abbrev pub NoneAlike : ℕ → ℕ → Type 0
NoneAlike q r = ⊥

pub linked_none : {Alike : ℕ → ℕ → Type 0} (column : List ℕ) → Linked Alike column 0 (replicate 256 0) (replicate 2048 0)
linked_none column =
    record {
      heads = length-replicate {A = ℕ} 256 0;
      nexts = length-replicate {A = ℕ} 2048 0;
      last = λ r l. absurd (omega arith);
      at = λ v p e. absurd (omega (arith, e, zeros_at 256 v));
      before = λ r q l. absurd (omega arith);
      on = λ r p l. absurd (omega arith);
    }

-- p is 0, or 1 more than a rule at v
abbrev pub Points : List ℕ → ℕ → ℕ → ℕ → Type 0
Points column len v p = (r : ℕ) → p ≡ suc r → (r < len) × (get_or column r 0 ≡ v)

pub points_most : (column : List ℕ) (len v p : ℕ) → Points column len v p → p ≤ len
points_most column len v zero h = omega arith
points_most column len v (suc r) h = omega (arith, (h r refl).0)

module _ {Alike : ℕ → ℕ → Type 0} (column : List ℕ) (len : ℕ) (head next : List ℕ) (linked : Linked Alike column len head next) (v : ℕ) where
  pub points_first : Points column len v (get_or head v 0)
  points_first r e = linked.at v r e

  pub points_last : (r : ℕ) → r < len → get_or column r 0 ≡ v → r < get_or head v 0
  points_last r b e = omega (arith, linked.last r b, ap (λ z. get_or head z 0) e)

  module _ (left : ℕ) (points : Points column len v left) (more : 0 < left) where
    -- the rule there
    pub points_rule : (left - 1 < len) × (get_or column (left - 1) 0 ≡ v)
    points_rule = points (left - 1) (omega arith)

    module _ (p : ℕ) (ep : p ≡ get_or next (left - 1) 0) where
      -- the one before it
      pub points_next : (p ≤ left - 1) × Points column len v p
      points_next =
          (below (get_or next (left - 1) 0) refl, λ q e. let t = linked.on (left - 1) q points_rule.0 (sym ep ∙ e) in (omega (arith, t.0, points_rule.0), t.1 ∙ points_rule.1))
        where
          below : (x : ℕ) → x ≡ get_or next (left - 1) 0 → p ≤ left - 1
          below zero e = omega (arith, e, ep)
          below (suc x) e = omega (arith, e, ep, (linked.on (left - 1) x points_rule.0 (sym e)).0)

      -- and those between are alike
      pub points_all : (q : ℕ) → q < left - 1 → get_or column q 0 ≡ v → p ≤ q → Alike q (left - 1)
      points_all q l e b = linked.before (left - 1) q points_rule.0 l (e ∙ sym points_rule.1) (omega (arith, ep))

-- one rule more, before which x stands in the list
module _ {Alike : ℕ → ℕ → Type 0} (column : List ℕ) (j : ℕ) (head next : List ℕ) (h : Linked Alike column j head next) (room : j < 2048) (v x y : ℕ) (ev : v ≡ get_or column j 0) (low : v < 256)
    (ey : y ≡ j + 1) where
  new_head : get_or (set head v y) v 0 ≡ y
  new_head = get_or-set_same head v y 0 (omega (arith, h.heads))

  new_next : get_or (set next j x) j 0 ≡ x
  new_next = get_or-set_same next j x 0 (omega (arith, h.nexts))

  linked_add : Points column j v x → ((q : ℕ) → q < j → get_or column q 0 ≡ v → x ≤ q → Alike q j) → Linked Alike column (j + 1) (set head v y) (set next j x)
  linked_add points passed =
      record {
        heads = simp length-set h.heads;
        nexts = simp length-set h.nexts;
        last = last;
        at = λ w p. by_cases (ℕ_discrete w v)
            (λ e f. let s : p ≡ j = omega (arith, new_head, ap (λ z. get_or (set head v y) z 0) e) in (omega arith, rw s (sym ev ∙ sym e)))
            (λ d f. let o = h.at w p (sym (get_or-set_other head v w y 0 d) ∙ f) in (omega (arith, o.0), o.1));
        before = before;
        on = on;
      }
    where
      last : (r : ℕ) → r < j + 1 → r < get_or (set head v y) (get_or column r 0) 0
      last r l =
          by_cases (ℕ_discrete (get_or column r 0) v)
          (λ e. rw (e, new_head) (omega arith))
          (λ d. rw (get_or-set_other head v (get_or column r 0) y 0 d) (h.last r (earlier d)))
        where
          earlier : get_or column r 0 ≢ v → r < j
          earlier d = by_cases (ℕ_discrete r j) (λ e. absurd (d (ap (λ z. get_or column z 0) e ∙ sym ev))) (λ n. omega arith)

      before : (r q : ℕ) → r < j + 1 → q < r → get_or column q 0 ≡ get_or column r 0 → get_or (set next j x) r 0 ≤ q → Alike q r
      before r q l b e a =
          by_cases (ℕ_discrete r j)
          (λ s. rw s (passed q (omega arith) (e ∙ ap (λ z. get_or column z 0) s ∙ sym ev) (omega (arith, new_next, ap (λ z. get_or (set next j x) z 0) s))))
          (λ d. h.before r q (omega arith) b e (omega (arith, get_or-set_other next j r x 0 d)))

      on : (r p : ℕ) → r < j + 1 → get_or (set next j x) r 0 ≡ suc p → (p < r) × (get_or column p 0 ≡ get_or column r 0)
      on r p l e =
          by_cases (ℕ_discrete r j)
          (λ s. let o = points p (sym new_next ∙ (rw s at e)) in (omega (arith, o.0), o.1 ∙ ev ∙ ap (λ z. get_or column z 0) (sym s)))
          (λ d. h.on r p (omega arith) (sym (get_or-set_other next j r x 0 d) ∙ e))

  -- the last rule at v
  pub linked_last : x ≡ get_or head v 0 → Linked Alike column (j + 1) (set head v y) (set next j x)
  linked_last e = linked_add (rw e (points_first column j head next h v)) (λ q l f a. absurd (omega (arith, e, points_last column j head next h v q l f)))

  -- or what stands before the last rule there, which is passed over
  pub linked_past : (left : ℕ) → left ≡ get_or head v 0 → 0 < left → x ≡ get_or next (left - 1) 0 → Alike (left - 1) j → ((q r : ℕ) → Alike q r → Alike r j → Alike q j) →
      Linked Alike column (j + 1) (set head v y) (set next j x)
  linked_past left e more ex same trans = linked_add (points_next column j head next h v left points more x ex).1 passed
    where
      points : Points column j v left
      points = rw e (points_first column j head next h v)

      passed : (q : ℕ) → q < j → get_or column q 0 ≡ v → x ≤ q → Alike q j
      passed q l f a =
          by_cases (dec_lt q (left - 1))
          (λ b. trans q (left - 1) (points_all column j head next h v left points more x ex q b f a) same)
          (λ b. let s : q ≡ left - 1 = omega (arith, e, points_last column j head next h v q l f) in rw s same)

-- order has 256 places, all below n
pub record Row (n : ℕ) (order : List ℕ) : Type 0 where
  pub room : length order ≡ 256
  pub low : (i : ℕ) → get_or order i 0 < n

pub row_none : (n : ℕ) → 1 ≤ n → Row n (replicate 256 0)
row_none n l = record { room = length-replicate {A = ℕ} 256 0; low = λ i. omega (arith, zeros_at 256 i) }

pub row_set : (n : ℕ) (order : List ℕ) (k w : ℕ) → Row n order → k < 256 → w < n → Row n (set order k w)
row_set n order k w h l b =
    record {
      room = simp length-set h.room;
      low = λ i. by_cases (ℕ_discrete i k)
          (λ e. rw (e, get_or-set_same order k w 0 (omega (arith, h.room))) b)
          (λ d. rw (get_or-set_other order k i w 0 d) (h.low i));
    }
