-- How the peeling is done. The rules are linked by one end; of each transition the remaining rules that enter it are counted; one that none enters
-- waits to be struck. S is the shape, n the number of transitions.
--
--   Tally P k c                == c is the number of those below k of which P holds
--   Enters S alive v p w r     == rule r enters w, and counts: both its ends remain, or it leaves v, just struck, and is below p
--   Tallied S alive v p k entering   == entering holds, of each transition, how many of the rules below k enter it and count
--   Waiting n alive entering order done k   == the places done to k of order hold the transitions below n that remain and that no rule enters
--   Lessened w ..              == one rule less enters w, which waits now if there was no other
--   Spread ..                  == where the loop over the rules that leave v is: those from p on are done
--   Striking ..                == where the loop over those that wait is
--   Stripped S n alive₀ alive order k   == k transitions were struck, each when no remaining rule entered it, until there was none
--   Peeled S n alive k         == k transitions were struck, and the remnant is left
use Rattle.std.specs.Prelude.{◌≡◌, refl, ◌⊎◌, ◌≢◌, List, [], ◌∷◌, ◌++◌, length, get_or, set, replicate}
use Rattle.std.proofs.Common.{ap, ◌∙◌, subst, inl, inr, ⊎_elim, length-append, get_or-set_same, get_or-set_other}
use Rattle.std.proofs.Math.Path.{sym}
use Rattle.std.proofs.Math.Logic.{by_cases}
use Prim.Native.Nat.{ℕ, zero, suc, ◌+◌, ◌-◌, ◌≤◌, ◌<◌}
use native.Mathlib.Omega.{arith}
use Rattle.std.proofs.Math.Numerals.{add-one}
use Rattle.std.proofs.Math.Decide.{ℕ_discrete, dec_lt}
use Rattle.std.proofs.lemmas.List.{get_or-replicate}
use Rattle.model.specs.Shape.{Shape}
use Rattle.theory.specs.Relax.{zeros_at}
use Rattle.columns.specs.Columns.{Limits}
use Rattle.peel.specs.Plain.{plain}
use Rattle.peel.specs.Sum.{sum, sum_but, sign, sign_some, sign_none, sign_most, total, total_set, inside}
use Rattle.peel.specs.Linked.{Linked, NoneAlike, Points, points_first, points_last, points_rule, points_next, points_all, Row, row_set}
use Rattle.peel.specs.Peel.{Entered, Left, Loose, StruckOut, Remnant}

-- --------------------------------------------------------------------------------------------------------------------------------- counts

-- c is the number of those below k of which P holds
abbrev pub Tally : (ℕ → Type 0) → ℕ → ℕ → Type 0
Tally P zero c = c ≡ 0
Tally P (suc k) c = (P k × ((b : ℕ) × (c ≡ suc b) × Tally P k b)) ⊎ ((¬ (P k)) × Tally P k c)

pub tally_most : (P : ℕ → Type 0) (k c : ℕ) → Tally P k c → c ≤ k
tally_most P zero c t = omega (arith, t)
tally_most P (suc k) c t = ⊎_elim (λ s. omega (arith, s.1.1, tally_most P k s.1.0 s.1.2)) (λ s. omega (arith, tally_most P k c s.1)) t

pub tally_same : (P Q : ℕ → Type 0) (k c : ℕ) → ((r : ℕ) → r < k → P r → Q r) → ((r : ℕ) → r < k → Q r → P r) → Tally P k c → Tally Q k c
tally_same P Q zero c to back t = t
tally_same P Q (suc k) c to back t =
    ⊎_elim
    (λ s. inl (to k (omega arith) s.0, (s.1.0, s.1.1, tally_same P Q k s.1.0 (λ r l. to r (omega arith)) (λ r l. back r (omega arith)) s.1.2)))
    (λ s. inr (λ q. s.0 (back k (omega arith) q), tally_same P Q k c (λ r l. to r (omega arith)) (λ r l. back r (omega arith)) s.1))
    t

-- all but j
pub tally_less : (P Q : ℕ → Type 0) (k c j : ℕ) → j < k → P j → ¬ (Q j) → ((r : ℕ) → r ≢ j → P r → Q r) → ((r : ℕ) → Q r → P r) → Tally P k c → (0 < c) × Tally Q k (c - 1)
tally_less P Q zero c j l p q to back t = absurd (omega arith)
tally_less P Q (suc k) c j l p q to back t =
    by_cases (ℕ_discrete k j)
    (λ e. ⊎_elim (λ s. (omega (arith, s.1.1), here e s.1.0 s.1.1 s.1.2)) (λ s. absurd (s.0 (rw e p))) t)
    (λ d.
    let below : j < k = omega arith in
    ⊎_elim
    (λ s. let h = tally_less P Q k s.1.0 j below p q to back s.1.2 in (omega (arith, s.1.1), inl (to k d s.0, (s.1.0 - 1, omega (arith, s.1.1, h.0), h.1))))
    (λ s. let h = tally_less P Q k c j below p q to back s.1 in (h.0, inr (λ x. s.0 (back k x), h.1)))
    t)
  where
    here : k ≡ j → (b : ℕ) → c ≡ suc b → Tally P k b → Tally Q (suc k) (c - 1)
    here e b s h =
        let o : c - 1 ≡ b = omega arith in
        rw o (inr (rw e q, tally_same P Q k b (λ r m. to r (λ f. omega arith)) (λ r m. back r) h))

pub tally_none : (P : ℕ → Type 0) (k c : ℕ) → Tally P k c → c ≡ 0 → (r : ℕ) → r < k → ¬ (P r)
tally_none P zero c t e r l p = omega arith
tally_none P (suc k) c t e r l p =
    ⊎_elim
    (λ s. omega (arith, s.1.1))
    (λ s. by_cases (ℕ_discrete r k) (λ f. s.0 (rw f at p)) (λ d. tally_none P k c s.1 e r (omega arith) p))
    t

pub tally_some : (P : ℕ → Type 0) (k c : ℕ) → Tally P k c → 0 < c → (r : ℕ) × (r < k) × P r
tally_some P zero c t l = absurd (omega (arith, t))
tally_some P (suc k) c t l =
    ⊎_elim (λ s. (k, omega arith, s.0)) (λ s. let h = tally_some P k c s.1 l in (h.0, omega (arith, h.1), h.2)) t

-- ---------------------------------------------------------------------------------------------------------------------- counts of rules

-- rule r enters w, and counts: both its ends remain, or it leaves v, just struck, and is below p, still to be looked at
abbrev pub Enters : Shape → List ℕ → ℕ → ℕ → ℕ → ℕ → Type 0
Enters S alive v p w r = (S.target r ≡ w) × (get_or alive w 0 ≡ 1) × ((get_or alive (S.source r) 0 ≡ 1) ⊎ ((S.source r ≡ v) × (r < p)))

-- how many of the rules below k enter each transition and count
abbrev pub Tallied : Shape → List ℕ → ℕ → ℕ → ℕ → List ℕ → Type 0
Tallied S alive v p k entering = (w : ℕ) → Tally (Enters S alive v p w) k (get_or entering w 0)

pub tallied_none : (S : Shape) (alive : List ℕ) → Tallied S alive 0 0 0 (replicate 256 0)
tallied_none S alive w = zeros_at 256 w

module _ (S : Shape) (alive : List ℕ) (j : ℕ) (entering : List ℕ) (h : Tallied S alive 0 0 j entering) where
  -- a rule that remains
  pub tallied_add : (u w : ℕ) → length entering ≡ 256 → w < 256 → u ≡ S.source j → w ≡ S.target j → (get_or alive u 0 ≡ 1) × (get_or alive w 0 ≡ 1)
      → Tallied S alive 0 0 (j + 1) (set entering w (get_or entering w 0 + 1))
  tallied_add u w room low eu ew both t =
      rw add-one
      (by_cases (ℕ_discrete t w)
      (λ s. rw (s, get_or-set_same entering w (get_or entering w 0 + 1) 0 (omega arith)) (inl ((sym ew, both.1, inl (rw (← eu) both.0)), (get_or entering w 0, omega arith, subst (λ (x : ℕ). Tally (Enters S alive 0 0 t) j (get_or entering x 0)) s (h t)))))
      (λ d. rw (get_or-set_other entering w t (get_or entering w 0 + 1) 0 d) (inr (λ p. d (sym p.0 ∙ sym ew), h t))))

  -- and one that does not
  pub tallied_skip : (u w : ℕ) → u ≡ S.source j → w ≡ S.target j → ¬ ((get_or alive u 0 ≡ 1) × (get_or alive w 0 ≡ 1)) → Tallied S alive 0 0 (j + 1) entering
  tallied_skip u w eu ew none t = rw add-one (inr (λ p. ⊎_elim (λ a. none (rw eu a, rw (ew, p.0) p.1)) (λ b. omega (arith, b.1)) p.2, h t))

pub tallied_most : (S : Shape) (alive : List ℕ) (v p k : ℕ) (entering : List ℕ) → Tallied S alive v p k entering → (w : ℕ) → get_or entering w 0 ≤ k
tallied_most S alive v p k entering h w = tally_most (Enters S alive v p w) k (get_or entering w 0) (h w)

-- no rule is still to be looked at
pub tallied_any : (S : Shape) (alive : List ℕ) (v k : ℕ) (entering : List ℕ) → Tallied S alive v 0 k entering → Tallied S alive 0 0 k entering
tallied_any S alive v k entering h w =
    tally_same (Enters S alive v 0 w) (Enters S alive 0 0 w) k (get_or entering w 0)
    (λ r l p. (p.0, p.1, ⊎_elim (λ a. inl a) (λ b. absurd (omega (arith, b.1))) p.2))
    (λ r l p. (p.0, p.1, ⊎_elim (λ a. inl a) (λ b. absurd (omega (arith, b.1))) p.2))
    (h w)

-- v, which no rule enters, is struck: the rules that leave it count until they are looked at
module _ (S : Shape) (alive : List ℕ) (v p : ℕ) (entering : List ℕ) (h : Tallied S alive 0 0 (S.rules) entering) (here : get_or alive v 0 ≡ 1) (none : get_or entering v 0 ≡ 0)
    (all : (r : ℕ) → r < S.rules → S.source r ≡ v → r < p) where
  to_struck : (w r : ℕ) → r < S.rules → Enters S alive 0 0 w r → Enters S (set alive v 0) v p w r
  to_struck w r l c =
      let d : w ≢ v = λ e. tally_none (Enters S alive 0 0 v) (S.rules) (get_or entering v 0) (h v) none r l (rw e at c) in
      (c.0, rw (get_or-set_other alive v w 0 0 d) c.1, ⊎_elim (λ a. source r l a) (λ b. absurd (omega (arith, b.1))) c.2)
    where
      source : (r : ℕ) → r < S.rules → get_or alive (S.source r) 0 ≡ 1 → (get_or (set alive v 0) (S.source r) 0 ≡ 1) ⊎ ((S.source r ≡ v) × (r < p))
      source r l a = by_cases (ℕ_discrete (S.source r) v) (λ e. inr (e, all r l e)) (λ d. inl (rw (get_or-set_other alive v (S.source r) 0 0 d) a))

  from_struck : (w r : ℕ) → r < S.rules → Enters S (set alive v 0) v p w r → Enters S alive 0 0 w r
  from_struck w r l c = (c.0, was w c.1, inl (⊎_elim (λ a. was (S.source r) a) (λ b. rw b.0 here) c.2))
    where
      was : (u : ℕ) → get_or (set alive v 0) u 0 ≡ 1 → get_or alive u 0 ≡ 1
      was u a = by_cases (ℕ_discrete u v) (λ e. rw e here) (λ d. sym (get_or-set_other alive v u 0 0 d) ∙ a)

  pub tallied_struck : Tallied S (set alive v 0) v p (S.rules) entering
  tallied_struck w = tally_same (Enters S alive 0 0 w) (Enters S (set alive v 0) v p w) (S.rules) (get_or entering w 0) (to_struck w) (from_struck w) (h w)

-- rule r, which leaves v, is looked at; the next one is below p
module _ (S : Shape) (alive : List ℕ) (v r p : ℕ) (entering : List ℕ) (h : Tallied S alive v (suc r) (S.rules) entering) (struck : get_or alive v 0 ≡ 0)
    (is_rule : r < S.rules) (from : S.source r ≡ v) (falls : p ≤ r) (next : (q : ℕ) → q < r → S.source q ≡ v → q < p) where
  ahead : (w q : ℕ) → q ≢ r → Enters S alive v (suc r) w q → Enters S alive v p w q
  ahead w q d c = (c.0, c.1, ⊎_elim (λ a. inl a) (λ b. inr (b.0, next q (omega (arith, b.1)) b.0)) c.2)

  back : (w q : ℕ) → Enters S alive v p w q → Enters S alive v (suc r) w q
  back w q c = (c.0, c.1, ⊎_elim (λ a. inl a) (λ b. inr (b.0, omega (arith, b.1))) c.2)

  -- its target remains: one rule less enters it
  pub tallied_less : (w : ℕ) → w ≡ S.target r → get_or alive w 0 ≡ 1 → (0 < get_or entering w 0) × Tallied S alive v p (S.rules) (set entering w (get_or entering w 0 - 1))
  tallied_less w e to = (one.0, rest)
    where
      gone : ¬ (Enters S alive v p w r)
      gone c = ⊎_elim (λ a. omega (arith, a, struck, ap (λ z. get_or alive z 0) from)) (λ b. omega (arith, b.1)) c.2

      one : (0 < get_or entering w 0) × Tally (Enters S alive v p w) (S.rules) (get_or entering w 0 - 1)
      one =
          tally_less (Enters S alive v (suc r) w) (Enters S alive v p w) (S.rules) (get_or entering w 0) r is_rule (sym e, to, inr (from, omega arith)) gone (ahead w) (back w) (h w)

      rest : (u : ℕ) → Tally (Enters S alive v p u) (S.rules) (get_or (set entering w (get_or entering w 0 - 1)) u 0)
      rest u =
          by_cases (ℕ_discrete u w)
          (λ s. rw (s, get_or-set_same entering w (get_or entering w 0 - 1) 0 (inside entering w one.0)) one.1)
          (λ d.
          rw (get_or-set_other entering w u (get_or entering w 0 - 1) 0 d)
          (tally_same (Enters S alive v (suc r) u) (Enters S alive v p u) (S.rules) (get_or entering u 0)
          (λ q l c. ahead u q (λ s. d (sym c.0 ∙ ap (S.target) s ∙ sym e)) c) (λ q l. back u q) (h u)))

  -- its target does not remain: nothing changes
  pub tallied_past : get_or alive (S.target r) 0 ≢ 1 → Tallied S alive v p (S.rules) entering
  tallied_past n u =
      tally_same (Enters S alive v (suc r) u) (Enters S alive v p u) (S.rules) (get_or entering u 0)
      (λ q l c. ahead u q (λ s. n (ap (λ z. get_or alive (S.target z) 0) (sym s) ∙ (rw c.0 c.1))) c) (λ q l. back u q) (h u)

-- --------------------------------------------------------------------------------------------------------------------------- those that wait

-- how many of the transitions below n a remaining rule enters
abbrev pub entries : ℕ → List ℕ → ℕ
entries n entering = sum n (λ w. sign (get_or entering w 0))

-- the places done to k of order hold the transitions below n that remain and that no rule enters, each once
pub record Waiting (n : ℕ) (alive entering order : List ℕ) (done k : ℕ) : Type 0 where
  pub listed : (w : ℕ) → w < n → get_or alive w 0 ≡ 1 → get_or entering w 0 ≡ 0 → (i : ℕ) × (done ≤ i) × (i < k) × (get_or order i 0 ≡ w)
  pub below : (i : ℕ) → i < k → get_or order i 0 < n
  pub empty : (i : ℕ) → i < k → get_or entering (get_or order i 0) 0 ≡ 0
  pub remain : (i : ℕ) → done ≤ i → i < k → get_or alive (get_or order i 0) 0 ≡ 1
  pub apart : (i j : ℕ) → i < j → j < k → get_or order i 0 ≢ get_or order j 0
  pub few : k + entries n entering ≤ n

pub waiting_none : (alive entering order : List ℕ) → Waiting 0 alive entering order 0 0
unfolding sum
waiting_none alive entering order =
    record {
      listed = λ w l. absurd (omega arith);
      below = λ i l. absurd (omega arith);
      empty = λ i l. absurd (omega arith);
      remain = λ i b l. absurd (omega arith);
      apart = λ i j b l. absurd (omega arith);
      few = omega arith;
    }

-- transition v is looked at
module _ (alive entering order : List ℕ) (v k : ℕ) (h : Waiting v alive entering order 0 k) where
  pub waiting_skip : ¬ ((get_or alive v 0 ≡ 1) × (get_or entering v 0 ≡ 0)) → Waiting (v + 1) alive entering order 0 k
  unfolding sum
  waiting_skip none =
      rw add-one
      record {
        listed = λ w l a e. by_cases (ℕ_discrete w v) (λ s. absurd (none (rw s at a, rw s at e))) (λ d. h.listed w (omega arith) a e);
        below = λ i l. omega (arith, h.below i l);
        empty = h.empty;
        remain = h.remain;
        apart = h.apart;
        few = few;
      }
    where
      few : k + entries (suc v) entering ≤ suc v
      few = omega (arith, h.few, sign_most (get_or entering v 0))

  module _ (room : length order ≡ 256) (left : k < 256) (remains : get_or alive v 0 ≡ 1) (none : get_or entering v 0 ≡ 0) where
    kept : (i : ℕ) → i < k → get_or (set order k v) i 0 ≡ get_or order i 0
    kept i l = get_or-set_other order k i v 0 (λ e. omega arith)

    new : get_or (set order k v) k 0 ≡ v
    new = get_or-set_same order k v 0 (omega arith)

    pub waiting_push : Waiting (v + 1) alive entering (set order k v) 0 (k + 1)
    unfolding sum
    waiting_push =
        rw add-one
        record {
          listed = λ w l a e. by_cases (ℕ_discrete w v)
              (λ s. (k, omega arith, omega arith, new ∙ sym s))
              (λ d. let t = h.listed w (omega arith) a e in (t.0, t.1, omega (arith, t.2), kept t.0 t.2 ∙ t.3));
          below = λ i l. by_cases (ℕ_discrete i k) (λ s. rw (s, new) (omega arith)) (λ d. let b : i < k = omega arith in rw (kept i b) (omega (arith, h.below i b)));
          empty = λ i l. by_cases (ℕ_discrete i k) (λ s. rw (s, new) none) (λ d. let b : i < k = omega arith in rw (kept i b) (h.empty i b));
          remain = λ i b l. by_cases (ℕ_discrete i k) (λ s. rw (s, new) remains) (λ d. let m : i < k = omega arith in rw (kept i m) (h.remain i b m));
          apart = λ i j b l. by_cases (ℕ_discrete j k)
              (λ s. let m : i < k = omega arith in rw (s, new, kept i m) (λ e. omega (arith, h.below i m)))
              (λ d. let m : j < k = omega arith in rw (kept i (omega arith), kept j m) (h.apart i j b m));
          few = rw none (omega (arith, h.few));
        }

-- the next one is struck
pub waiting_struck : (n : ℕ) (alive entering order : List ℕ) (done k v : ℕ) → Waiting n alive entering order done k → done < k → v ≡ get_or order done 0
    → Waiting n (set alive v 0) entering order (done + 1) k
waiting_struck n alive entering order done k v h l ev =
    record {
      listed = λ w b a e. let d : w ≢ v = λ s. omega (arith, a, ap (λ z. get_or (set alive v 0) z 0) s, gone) in later w d (h.listed w b (sym (get_or-set_other alive v w 0 0 d) ∙ a) e);
      below = h.below;
      empty = h.empty;
      remain = λ i b m. rw (get_or-set_other alive v (get_or order i 0) 0 0 (λ s. h.apart done i (omega arith) m (sym ev ∙ sym s))) (h.remain i (omega arith) m);
      apart = h.apart;
      few = h.few;
    }
  where
    gone : get_or (set alive v 0) v 0 ≡ 0
    gone = get_or-set_same alive v 0 0 (inside alive v (omega (arith, h.remain done (omega arith) l, ap (λ z. get_or alive z 0) ev)))

    later : (w : ℕ) → w ≢ v → (i : ℕ) × (done ≤ i) × (i < k) × (get_or order i 0 ≡ w) → (i : ℕ) × (done + 1 ≤ i) × (i < k) × (get_or order i 0 ≡ w)
    later w d t = (t.0, after (ℕ_discrete t.0 done), t.2, t.3)
      where
        after : Dec (t.0 ≡ done) → done + 1 ≤ t.0
        after x = by_cases x (λ s. absurd (d (sym t.3 ∙ ap (λ z. get_or order z 0) s ∙ sym ev))) (λ m. omega (arith, t.1))

-- one rule less enters w: it waits now, if that was the last, and the place after those that wait is k
pub record Lessened (w : ℕ) (entering₀ entering order₀ order : List ℕ) (k₀ k : ℕ) : Type 0 where
  pub fell : entering ≡ set entering₀ w (get_or entering₀ w 0 - 1)
  pub last : get_or entering₀ w 0 ≡ 1 → (order ≡ set order₀ k₀ w) × (k ≡ k₀ + 1)
  pub more : 1 < get_or entering₀ w 0 → (order ≡ order₀) × (k ≡ k₀)

module _ (n : ℕ) (alive entering order : List ℕ) (done k w : ℕ) (h : Waiting n alive entering order done k) (low : w < n) (some : 0 < get_or entering w 0) where
  abbrev fewer : List ℕ
  fewer = set entering w (get_or entering w 0 - 1)

  fewer_here : get_or fewer w 0 ≡ get_or entering w 0 - 1
  fewer_here = get_or-set_same entering w (get_or entering w 0 - 1) 0 (inside entering w some)

  fewer_other : (u : ℕ) → u ≢ w → get_or fewer u 0 ≡ get_or entering u 0
  fewer_other u d = get_or-set_other entering w u (get_or entering w 0 - 1) 0 d

  -- none of those that wait is w
  other : (i : ℕ) → i < k → get_or order i 0 ≢ w
  other i l e = omega (arith, some, h.empty i l, ap (λ z. get_or entering z 0) e)

  still_empty : (i : ℕ) → i < k → get_or fewer (get_or order i 0) 0 ≡ 0
  still_empty i l = fewer_other (get_or order i 0) (other i l) ∙ h.empty i l

  fewer_entries : entries n fewer + sign (get_or entering w 0) ≡ entries n entering + sign (get_or entering w 0 - 1)
  fewer_entries =
      subst (λ (x : ℕ). entries n fewer + sign (get_or entering w 0) ≡ entries n entering + sign x) fewer_here
      (sum_but n (λ u. sign (get_or fewer u 0)) (λ u. sign (get_or entering u 0)) w low (λ u d. ap sign (fewer_other u d)))

  -- w is entered by others
  waiting_more : 1 < get_or entering w 0 → Waiting n alive fewer order done k
  waiting_more m =
      record {
        listed = λ u b a e. let d : u ≢ w = λ s. omega (arith, e, fewer_here, ap (λ z. get_or fewer z 0) s) in h.listed u b a (sym (fewer_other u d) ∙ e);
        below = h.below;
        empty = still_empty;
        remain = h.remain;
        apart = h.apart;
        few = omega (arith, h.few, fewer_entries, sign_some (get_or entering w 0) some, sign_some (get_or entering w 0 - 1) (omega arith));
      }

  -- that was the last
  few_last : get_or entering w 0 ≡ 1 → (k + 1 + entries n fewer ≤ n)
  few_last e = omega (arith, h.few, fewer_entries, sign_some (get_or entering w 0) some, sign_none (get_or entering w 0 - 1) (omega arith))

  module _ (room : length order ≡ 256) (in_all : n ≤ 256) (remains : get_or alive w 0 ≡ 1) (one : get_or entering w 0 ≡ 1) where
    -- there is room for one more
    left : k < 256
    left = omega (arith, few_last one)

    held : (i : ℕ) → i < k → get_or (set order k w) i 0 ≡ get_or order i 0
    held i l = get_or-set_other order k i w 0 (λ e. omega arith)

    now : get_or (set order k w) k 0 ≡ w
    now = get_or-set_same order k w 0 (omega (arith, left))

    waiting_last : done ≤ k → Waiting n alive fewer (set order k w) done (k + 1)
    waiting_last behind =
        record {
          listed = λ u b a e. by_cases (ℕ_discrete u w)
              (λ s. (k, behind, omega arith, now ∙ sym s))
              (λ d. let t = h.listed u b a (sym (fewer_other u d) ∙ e) in (t.0, t.1, omega (arith, t.2), held t.0 t.2 ∙ t.3));
          below = λ i l. by_cases (ℕ_discrete i k) (λ s. rw (s, now) low) (λ d. let b : i < k = omega arith in rw (held i b) (h.below i b));
          empty = λ i l. by_cases (ℕ_discrete i k) (λ s. rw (s, now) (omega (arith, fewer_here))) (λ d. let b : i < k = omega arith in rw (held i b) (still_empty i b));
          remain = λ i b l. by_cases (ℕ_discrete i k) (λ s. rw (s, now) remains) (λ d. let m : i < k = omega arith in rw (held i m) (h.remain i b m));
          apart = λ i j b l. by_cases (ℕ_discrete j k)
              (λ s. let m : i < k = omega arith in rw (s, now, held i m) (other i m))
              (λ d. let m : j < k = omega arith in rw (held i (omega arith), held j m) (h.apart i j b m));
          few = few_last one;
        }

-- one rule less enters w, which remains
pub waiting_less : (n : ℕ) (alive entering₀ entering order₀ order : List ℕ) (done k₀ k w : ℕ) → Waiting n alive entering₀ order₀ done k₀ → done ≤ k₀ → n ≤ 256 → Row n order₀
    → w < n → 0 < get_or entering₀ w 0 → get_or alive w 0 ≡ 1 → Lessened w entering₀ entering order₀ order k₀ k → Waiting n alive entering order done k × Row n order × (k₀ ≤ k)
waiting_less n alive entering₀ entering order₀ order done k₀ k w h behind few row low some remains l =
    by_cases (ℕ_discrete (get_or entering₀ w 0) 1)
    (λ e.
    let t = l.last e in
    rw (l.fell, t.0, t.1)
    (waiting_last n alive entering₀ order₀ done k₀ w h low some row.room few remains e behind, row_set n order₀ k₀ w row (left n alive entering₀ order₀ done k₀ w h low some row.room few remains e) low, omega arith))
    (λ d.
    let t = l.more (omega arith) in
    rw (l.fell, t.0, t.1) (waiting_more n alive entering₀ order₀ done k₀ w h low some (omega arith), row, omega arith))

-- there is room for one more where a rule enters w
pub waiting_room : (n : ℕ) (alive entering order : List ℕ) (done k w : ℕ) → Waiting n alive entering order done k → w < n → n ≤ 256 → 0 < get_or entering w 0 → get_or entering w 0 ≡ 1 → k < 256
waiting_room n alive entering order done k w h low few some e = omega (arith, few_last n alive entering order done k w h low some e)

-- ------------------------------------------------------------------------------------------------------------------------------ striking

-- transition v, just struck, is being looked at: its rules from p on are done, and done transitions of order were struck
pub record Spread (S : Shape) (n v p : ℕ) (alive entering order : List ℕ) (done k : ℕ) : Type 0 where
  pub tallied : Tallied S alive v p (S.rules) entering
  pub waiting : Waiting n alive entering order done k
  pub row : Row n order
  pub behind : done ≤ k

-- no remaining rule enters v
abbrev pub NotEntered : Shape → List ℕ → ℕ → Type 0
NotEntered S alive v = ¬ (Entered S alive v)

module _ (S : Shape) (n : ℕ) (alive entering order : List ℕ) (done k : ℕ) (h : Spread S n 0 0 alive entering order done k) where
  -- the next that waits remains, and no remaining rule enters it
  pub next_loose : done < k → (get_or order done 0 < n) × (get_or alive (get_or order done 0) 0 ≡ 1) × NotEntered S alive (get_or order done 0)
  next_loose l = (h.row.low done, h.waiting.remain done (omega arith) l, none)
    where
      none : NotEntered S alive (get_or order done 0)
      none i =
          tally_none (Enters S alive 0 0 (get_or order done 0)) (S.rules) _ (h.tallied (get_or order done 0)) (h.waiting.empty done l) i.rule i.remains.is_rule
          (i.enters, h.waiting.remain done (omega arith) l, inl i.remains.source_remains)

  -- none waits: a remaining rule enters each that remains
  pub all_entered : k ≤ done → (v : ℕ) → v < n → get_or alive v 0 ≡ 1 → Entered S alive v
  all_entered l v b a =
      by_cases (ℕ_discrete (get_or entering v 0) 0)
      (λ e. let t = h.waiting.listed v b a e in absurd (omega (arith, t.1, t.2)))
      (λ d. found (tally_some (Enters S alive 0 0 v) (S.rules) _ (h.tallied v) (omega arith)))
    where
      found : (r : ℕ) × (r < S.rules) × Enters S alive 0 0 v r → Entered S alive v
      found t =
          record {
            rule = t.0;
            remains = record { is_rule = t.1; source_remains = ⊎_elim (λ s. s) (λ s. absurd (omega (arith, s.1))) t.2.2; target_remains = rw t.2.0 a };
            enters = t.2.0;
          }

module _ (from to : List ℕ) (len n : ℕ) (limits : Limits from to [] len n) (head next : List ℕ) (linked : Linked NoneAlike from len head next) where
  -- the next that waits is struck, and its rules are to be looked at
  pub spread_starts : (alive entering order : List ℕ) (done k v p : ℕ) → Spread (plain from to len) n 0 0 alive entering order done k → done < k → v ≡ get_or order done 0 → p ≡ get_or head v 0
      → Spread (plain from to len) n v p (set alive v 0) entering order (done + 1) k × (get_or (set alive v 0) v 0 ≡ 0) × Points from len v p
  spread_starts alive entering order done k v p h l ev ep = (
    record {
      tallied = tallied_struck (plain from to len) alive v p entering h.tallied here (ap (λ z. get_or entering z 0) ev ∙ h.waiting.empty done l)
          (λ r b e. omega (arith, ep, points_last from len head next linked v r b e));
      waiting = waiting_struck n alive entering order done k v h.waiting l ev;
      row = h.row;
      behind = omega arith;
    },
    get_or-set_same alive v 0 0 (inside alive v (omega (arith, here))),
    rw ep (points_first from len head next linked v),
  )
    where
      here : get_or alive v 0 ≡ 1
      here = ap (λ z. get_or alive z 0) ev ∙ h.waiting.remain done (omega arith) l

  -- one rule is looked at
  module _ (alive entering order : List ℕ) (done k v left : ℕ) (h : Spread (plain from to len) n v left alive entering order done k) (struck : get_or alive v 0 ≡ 0)
      (points : Points from len v left) (more : 0 < left) where
    abbrev r : ℕ
    r = left - 1

    at : (r < len) × (get_or from r 0 ≡ v)
    at = points_rule from len head next linked v left points more

    -- it is a rule, and its target is a transition
    pub spread_inside : (r < 2048) × (get_or to r 0 < 256)
    spread_inside = (omega (arith, at.0, limits.few_rules), omega (arith, limits.fits r at.0, limits.few_transitions))

    tallied' : Tallied (plain from to len) alive v (suc r) len entering
    tallied' = let e : suc r ≡ left = omega arith in rw e h.tallied

    module _ (w p : ℕ) (ew : w ≡ get_or to r 0) (ep : p ≡ get_or next r 0) where
      on : (p ≤ r) × Points from len v p
      on = points_next from len head next linked v left points more p ep

      -- the next rule
      pub spread_points : (p < left) × Points from len v p
      spread_points = (omega (arith, on), on.1)

      later : (q : ℕ) → q < r → get_or from q 0 ≡ v → q < p
      later q l e = by_cases (dec_lt q p) (λ b. b) (λ b. absurd (points_all from len head next linked v left points more p ep q l e (omega arith)))

      less : get_or alive w 0 ≡ 1 → (0 < get_or entering w 0) × Tallied (plain from to len) alive v p len (set entering w (get_or entering w 0 - 1))
      less = tallied_less (plain from to len) alive v r p entering tallied' struck at.0 at.1 on.0 later w ew

      low : w < n
      low = omega (arith, ew, limits.fits r at.0)

      pub spread_less : get_or alive w 0 ≡ 1 → (entering' order' : List ℕ) (k' : ℕ) → Lessened w entering entering' order order' k k'
          → Spread (plain from to len) n v p alive entering' order' done k'
      spread_less a entering' order' k' l =
          let x = waiting_less n alive entering entering' order order' done k k' w h.waiting h.behind limits.few_transitions h.row low (less a).0 a l in
          record { tallied = rw l.fell (less a).1; waiting = x.0; row = x.1; behind = omega (arith, x.2, h.behind) }

      pub spread_past : get_or alive w 0 ≢ 1 → Spread (plain from to len) n v p alive entering order done k
      spread_past d =
          record {
            tallied = tallied_past (plain from to len) alive v r p entering tallied' struck at.0 at.1 on.0 later (rw ew at d);
            waiting = h.waiting;
            row = h.row;
            behind = h.behind;
          }

    -- a rule enters w, which remains, and there is room for w among those that wait
    pub spread_ready : (w : ℕ) → w ≡ get_or to r 0 → get_or alive w 0 ≡ 1 → (w < 256) × (0 < get_or entering w 0) × (get_or entering w 0 ≡ 1 → k < 256)
    spread_ready w ew a =
        let some = (less w (get_or next r 0) ew refl a).0 in
        let b = low w (get_or next r 0) ew refl in
        (omega (arith, b, limits.few_transitions), some, waiting_room n alive entering order done k w h.waiting b limits.few_transitions some)

-- the next that waits was struck, and its rules were looked at
pub record StruckNext (S : Shape) (n : ℕ) (alive₀ order₀ : List ℕ) (done : ℕ) (alive entering order : List ℕ) (k : ℕ) : Type 0 where
  pub strikes : alive ≡ set alive₀ (get_or order₀ done 0) 0
  pub spread : Spread S n 0 0 alive entering order (done + 1) k

pub spread_ends : (S : Shape) (n v p : ℕ) (alive₀ order₀ alive entering order : List ℕ) (done k : ℕ) → Spread S n v p alive entering order (done + 1) k → p ≡ 0
    → v ≡ get_or order₀ done 0 → alive ≡ set alive₀ v 0 → StruckNext S n alive₀ order₀ done alive entering order k
spread_ends S n v p alive₀ order₀ alive entering order done k h e ev ea =
    record {
      strikes = rw (← ev) ea;
      spread = record { tallied = tallied_any S alive v (S.rules) entering (rw e at h.tallied); waiting = h.waiting; row = h.row; behind = h.behind };
    }

module _ (C : List ℕ → ℕ → Type 0) (n : ℕ) where
  -- one strike-out more, and as many
  pub struck_join : (alive vs mid ws after : List ℕ) → StruckOut C n alive vs mid → StruckOut C n mid ws after → StruckOut C n alive (vs ++ ws) after
  struck_join alive [] mid ws after h k = subst (λ (l : List ℕ). StruckOut C n l ws after) (sym h) k
  struck_join alive (v ∷ vs) mid ws after h k = (h.0, h.1, h.2, struck_join (set alive v 0) vs mid ws after h.3 k)

  -- each takes one
  pub struck_total : (alive vs after : List ℕ) → StruckOut C n alive vs after → total n after + length vs ≡ total n alive
  struck_total alive [] after h = omega (arith, ap (total n) h)
  struck_total alive (v ∷ vs) after h = omega (arith, h.1, total_set n alive v 0 h.0 (omega (arith, h.1)), struck_total (set alive v 0) vs after h.3)

  pub struck_for : (D : List ℕ → ℕ → Type 0) → ((alive : List ℕ) (v : ℕ) → C alive v → D alive v) → (alive vs after : List ℕ) → StruckOut C n alive vs after → StruckOut D n alive vs after
  struck_for D to alive [] after h = h
  struck_for D to alive (v ∷ vs) after h = (h.0, h.1, to alive v h.2, struck_for D to (set alive v 0) vs after h.3)

-- where the loop over those that wait is
pub record Striking (S : Shape) (n : ℕ) (alive₀ alive entering order : List ℕ) (done k : ℕ) : Type 0 where
  pub spread : Spread S n 0 0 alive entering order done k
  pub struck : List ℕ
  pub strikes : StruckOut (NotEntered S) n alive₀ struck alive
  pub size : length struck ≡ done

-- k transitions were struck, each when no remaining rule entered it, until there was none
pub record Stripped (S : Shape) (n : ℕ) (alive₀ alive order : List ℕ) (k : ℕ) : Type 0 where
  pub struck : List ℕ
  pub strikes : StruckOut (NotEntered S) n alive₀ struck alive
  pub size : length struck ≡ k
  pub entered : (v : ℕ) → v < n → get_or alive v 0 ≡ 1 → Entered S alive v
  pub row : Row n order

module _ (S : Shape) (n : ℕ) (alive₀ : List ℕ) where
  pub striking_starts : (entering order : List ℕ) (k : ℕ) → Tallied S alive₀ 0 0 (S.rules) entering → Waiting n alive₀ entering order 0 k → Row n order
      → Striking S n alive₀ alive₀ entering order 0 k
  striking_starts entering order k t w row =
      record { spread = record { tallied = t; waiting = w; row = row; behind = omega arith }; struck = []; strikes = refl; size = refl }

  pub striking_next : (alive entering order : List ℕ) (done k : ℕ) → Striking S n alive₀ alive entering order done k → done < k → (alive' entering' order' : List ℕ) (k' : ℕ)
      → StruckNext S n alive order done alive' entering' order' k' → Striking S n alive₀ alive' entering' order' (done + 1) k'
  striking_next alive entering order done k h l alive' entering' order' k' s =
      let t = next_loose S n alive entering order done k h.spread l in
      record {
        spread = s.spread;
        struck = h.struck ++ (get_or order done 0 ∷ []);
        strikes = struck_join (NotEntered S) n alive₀ h.struck alive (get_or order done 0 ∷ []) alive' h.strikes (t.0, t.1, t.2, sym s.strikes);
        size = omega (arith, h.size, length-append h.struck (get_or order done 0 ∷ []));
      }

  pub striking_ends : (alive entering order : List ℕ) (done k : ℕ) → Striking S n alive₀ alive entering order done k → k ≤ done → Stripped S n alive₀ alive order done
  striking_ends alive entering order done k h l =
      record { struck = h.struck; strikes = h.strikes; size = h.size; entered = all_entered S n alive entering order done k h.spread l; row = h.spread.row }

-- ------------------------------------------------------------------------------------------------------------------------------ the peeling

-- k transitions were struck, and the remnant is left; order holds those that no remaining rule entered, in the order of their striking, and then zeros
pub record Peeled (S : Shape) (n : ℕ) (alive : List ℕ) (k : ℕ) : Type 0 where
  pub remnant : Remnant S n alive
  pub counted : k + total n alive ≡ n

-- at first all n remain
total_all : (n : ℕ) → n ≤ 256 → total n (replicate 256 1) ≡ n
unfolding sum
total_all zero l = refl
total_all (suc n) l = omega (arith, total_all n (omega arith), get_or-replicate {A = ℕ} 256 n 1 0 (omega arith))

total_least : (n : ℕ) (xs : List ℕ) (v : ℕ) → v < n → get_or xs v 0 ≤ total n xs
unfolding sum
total_least zero xs v l = absurd (omega arith)
total_least (suc n) xs v l = by_cases (ℕ_discrete v n) (λ e. rw e (omega arith)) (λ d. omega (arith, total_least n xs v (omega arith)))

-- all were struck: none remains
pub peeled_none : (S : Shape) (n : ℕ) (alive : List ℕ) (k : ℕ) → Peeled S n alive k → n ≤ k → (v : ℕ) → v < n → get_or alive v 0 ≢ 1
peeled_none S n alive k p l v b a = omega (arith, a, p.counted, total_least n alive v b)

module _ (from to : List ℕ) (len n : ℕ) (limits : Limits from to [] len n) where
  -- the rules, and the rules turned round
  abbrev one : Shape
  one = plain from to len

  abbrev two : Shape
  two = plain to from len

  left_of : (alive : List ℕ) (v : ℕ) → Entered two alive v → Left one alive v
  left_of alive v i =
      record {
        rule = i.rule;
        remains = record { is_rule = i.remains.is_rule; source_remains = i.remains.target_remains; target_remains = i.remains.source_remains };
        leaves = i.enters;
      }

  entered_of : (alive : List ℕ) (v : ℕ) → Left one alive v → Entered two alive v
  entered_of alive v o =
      record {
        rule = o.rule;
        remains = record { is_rule = o.remains.is_rule; source_remains = o.remains.target_remains; target_remains = o.remains.source_remains };
        enters = o.leaves;
      }

  -- STRIKING ONE THAT NONE LEAVES TAKES NO ENTERING RULE FROM ANOTHER
  entered_stays : (alive vs after : List ℕ) → StruckOut (NotEntered two) n alive vs after → ((v : ℕ) → v < n → get_or alive v 0 ≡ 1 → Entered one alive v)
      → (v : ℕ) → v < n → get_or after v 0 ≡ 1 → Entered one after v
  entered_stays alive [] after h all v b a = subst (λ (l : List ℕ). Entered one l v) h (all v b (subst (λ (l : List ℕ). get_or l v 0 ≡ 1) (sym h) a))
  entered_stays alive (u ∷ us) after h all v b a = entered_stays (set alive u 0) us after h.3 (λ w l e. still w l e (ℕ_discrete w u)) v b a
    where
      gone : get_or (set alive u 0) u 0 ≡ 0
      gone = get_or-set_same alive u 0 0 (inside alive u (omega (arith, h.1)))

      kept : (w : ℕ) → w ≢ u → Entered one alive w → Entered one (set alive u 0) w
      kept w d i =
          let source : get_or from i.rule 0 ≢ u = λ e. h.2 (entered_of alive u (record { rule = i.rule; remains = i.remains; leaves = e })) in
          let target : get_or to i.rule 0 ≢ u = λ e. d (sym i.enters ∙ e) in
          record {
            rule = i.rule;
            remains = record {
              is_rule = i.remains.is_rule;
              source_remains = get_or-set_other alive u (get_or from i.rule 0) 0 0 source ∙ i.remains.source_remains;
              target_remains = get_or-set_other alive u (get_or to i.rule 0) 0 0 target ∙ i.remains.target_remains;
            };
            enters = i.enters;
          }

      still : (w : ℕ) → w < n → get_or (set alive u 0) w 0 ≡ 1 → Dec (w ≡ u) → Entered one (set alive u 0) w
      still w l e x =
          by_cases x
          (λ s. absurd (omega (arith, e, ap (λ z. get_or (set alive u 0) z 0) s, gone)))
          (λ d. kept w d (all w l (sym (get_or-set_other alive u w 0 0 d) ∙ e)))

  module _ (alive order : List ℕ) (k : ℕ) (first : Stripped one n (replicate 256 1) alive order k) where
    -- all were struck
    pub peeled_once : n ≤ k → Peeled one n alive k
    peeled_once l =
        record {
          remnant = record {
            struck = first.struck;
            strikes = struck_for (NotEntered one) n (Loose one) (λ a v none. inl none) (replicate 256 1) first.struck alive first.strikes;
            entered = first.entered;
            left = λ v b a. absurd (omega (arith, a, counted, total_least n alive v b));
          };
          counted = counted;
        }
      where
        counted : k + total n alive ≡ n
        counted = omega (arith, first.size, struck_total (NotEntered one) n (replicate 256 1) first.struck alive first.strikes, total_all n limits.few_transitions)

    -- and those that none leaves
    pub peeled_twice : (alive' order' : List ℕ) (k' : ℕ) → Stripped two n alive alive' order' k' → Peeled one n alive' (k + k')
    peeled_twice alive' order' k' second =
        record {
          remnant = record {
            struck = first.struck ++ second.struck;
            strikes = struck_join (Loose one) n (replicate 256 1) first.struck alive second.struck alive'
                (struck_for (NotEntered one) n (Loose one) (λ a v none. inl none) (replicate 256 1) first.struck alive first.strikes)
                (struck_for (NotEntered two) n (Loose one) (λ a v none. inr (λ o. none (entered_of a v o))) alive second.struck alive' second.strikes);
            entered = entered_stays alive second.struck alive' second.strikes first.entered;
            left = λ v b a. left_of alive' v (second.entered v b a);
          };
          counted = omega (
            arith,
            first.size,
            second.size,
            struck_total (NotEntered one) n (replicate 256 1) first.struck alive first.strikes,
            struck_total (NotEntered two) n alive second.struck alive' second.strikes,
            total_all n limits.few_transitions,
          );
        }
