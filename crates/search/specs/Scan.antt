-- Following parents back, walk after walk, until one comes round. S is the shape, D the delays, n the number of transitions.
-- `stamp` holds, of each transition, the number of the walk that came to it first, counted from 1, or 0; delays' and offsets' hold the sums of
-- that walk when it came there.
--
--   unstamped stamp k              == how many transitions below k no walk came to: the measure of a walk
--   Ready S D n par                == the rules are within the limits, and parents are rules into their transitions
--   Back S D par v w a e a₀ e₀     == a walk of parents, not empty, from v to w, of delay sum a - a₀ and offset sum e - e₀
--   Room, Fresh                    == the lists have room; and a walk may start
--   Walking ..                     == where a walk is: at v, with the sums a and e
--   Turn ..                        == what one turn of it does; walking_start, turn
--   Sums S D n par met             == what was met, if anything, is a closed walk of parents
--   Walked ..                      == what a walk leaves: it came round, or all that it passed is grounded; walked_loop, walked_root, walked_met
--   Low a e, Kept x y r            == sums that can be multiplied, and the better of two that were met; kept_left, kept_right, kept_one
--   Looked ..                      == what the first k walks leave; looked_start, looked_next, looked_on, looked_all
use Rattle.std.specs.Prelude.{◌≡◌, Option, Some, None, ◌⊎◌, List, [], ◌∷◌, length, get_or, set, replicate}
use Rattle.std.specs.Option.{ForSome}
use Rattle.std.proofs.Math.Path.{refl, ap}
use Rattle.std.proofs.Common.{inl, inr, ⊎_elim, arith, length-set, get_or-set_other}
use Rattle.std.proofs.Math.Logic.{by_cases}
use Prim.Native.Nat.{ℕ, zero, suc, ◌+◌, ◌*◌, ◌-◌, ◌≤◌, ◌<◌}
use Rattle.std.proofs.Math.Decide.{ℕ_discrete}
use Rattle.std.proofs.lemmas.List.{length-replicate}
use Rattle.std.proofs.lemmas.Option.{same_Some}
use Rattle.std.proofs.Math.Seq.{get_or-set_same}
use Rattle.model.specs.Shape.{Shape, Fits}
use Rattle.model.specs.Sums.{delays, offsets}
use Rattle.model.specs.Walk.{Walk}
use Rattle.theory.specs.Relax.{zeros_at}
use Rattle.theory.specs.Parents.{Parents, Grounded, grounded_root, grounded_step}
use Rattle.search.specs.declared.scan.Walk.{Walk as Met}
use Rattle.columns.specs.Columns.{shape, delay_at, Limits, Short}
use Rattle.search.specs.Search.{Valid, ParentLoop, Scanned}

-- how many of the transitions below k have the stamp 0
one_if_zero : ℕ → ℕ
one_if_zero zero = 1
one_if_zero (suc x) = 0

pub unstamped : List ℕ → ℕ → ℕ
unstamped stamp zero = 0
unstamped stamp (suc k) = unstamped stamp k + one_if_zero (get_or stamp k 0)

one_if_zero_lem : (x : ℕ) → x ≡ 0 → one_if_zero x ≡ 1
unfolding one_if_zero
one_if_zero_lem x e = rw e

none_if_not : (x : ℕ) → 0 < x → one_if_zero x ≡ 0
unfolding one_if_zero
none_if_not zero b = absurd (omega arith)
none_if_not (suc x) b = refl

one_at_most : (x : ℕ) → one_if_zero x ≤ 1
unfolding one_if_zero
one_at_most zero = omega arith
one_at_most (suc x) = omega arith

unstamped_most : (stamp : List ℕ) (k : ℕ) → unstamped stamp k ≤ k
unfolding unstamped
unstamped_most stamp zero = omega arith
unstamped_most stamp (suc k) = omega (arith, unstamped_most stamp k, one_at_most (get_or stamp k 0))

-- a stamp on v leaves the others as they are, and is one more below every k above v
module _ (stamp : List ℕ) (v number : ℕ) (room : v < length stamp) (fresh : get_or stamp v 0 ≡ 0) (counted : 0 < number) where
  unstamped_past : (k : ℕ) → k ≤ v → unstamped (set stamp v number) k ≡ unstamped stamp k
  unfolding unstamped
  unstamped_past zero b = refl
  unstamped_past (suc k) b = rw (get_or-set_other stamp v k number 0 (λ e. omega arith), unstamped_past k (omega arith)) refl

  unstamped_set : (k : ℕ) → v < k → unstamped stamp k ≡ unstamped (set stamp v number) k + 1
  unfolding unstamped
  unstamped_set zero b = absurd (omega arith)
  unstamped_set (suc k) b =
      by_cases (ℕ_discrete k v)
      (λ e. rw e (omega (arith, unstamped_past v (omega arith), one_if_zero_lem (get_or stamp v 0) fresh, none_if_not (get_or (set stamp v number) v 0) (omega (arith, get_or-set_same stamp v number 0 room)))))
      (λ d. omega (arith, unstamped_set k (omega arith), ap one_if_zero (get_or-set_other stamp v k number 0 d)))

-- the rules are within the limits, and parents are rules into their transitions
pub record Ready (S : Shape) (D : ℕ → ℕ) (n : ℕ) (par : List ℕ) : Type 0 where
  pub fits : Fits S n
  pub offset_low : (r : ℕ) → r < S.rules → S.offset r ≤ 15
  pub delay_low : (r : ℕ) → r < S.rules → D r ≤ 1000000
  pub valid : Valid S par

-- a walk of parents from v to w that makes up the sums from a₀, e₀ to a, e
pub record Back (S : Shape) (D : ℕ → ℕ) (par : List ℕ) (v w a e a₀ e₀ : ℕ) : Type 0 where
  pub walk : List ℕ
  pub some_rule : 0 < length walk
  pub walks : Walk S v w walk
  pub parents : Parents S par walk
  pub delays_are : delays D walk + a₀ ≡ a
  pub offsets_are : offsets S walk + e₀ ≡ e

-- room for 256 transitions each
pub record Room (stamp delays' offsets' : List ℕ) : Type 0 where
  pub stamps : length stamp ≡ 256
  pub delay_sums : length delays' ≡ 256
  pub offset_sums : length offsets' ≡ 256

-- a walk may start: its number is above every stamp
pub record Fresh (n from number : ℕ) (stamp delays' offsets' : List ℕ) : Type 0 where
  pub few : n ≤ 256
  pub from_below : from < n
  pub counted : 0 < number
  pub above : (w : ℕ) → get_or stamp w 0 < number
  pub room : Room stamp delays' offsets'

-- the walk from `from` is at v; stamp₀ are the stamps before it
pub record Walking (S : Shape) (D : ℕ → ℕ) (n : ℕ) (par : List ℕ) (from number : ℕ) (stamp₀ stamp delays' offsets' : List ℕ) (v a e : ℕ) : Type 0 where
  pub here : v < n
  pub room : Room stamp delays' offsets'
  pub kept : (w : ℕ) → (get_or stamp w 0 ≡ get_or stamp₀ w 0) ⊎ (get_or stamp w 0 ≡ number)
  pub back : (w : ℕ) → get_or stamp w 0 ≡ number → Back S D par v w a e (get_or delays' w 0) (get_or offsets' w 0)
  pub start : (from ≡ v) ⊎ (get_or stamp from 0 ≡ number)
  pub delay_room : a + unstamped stamp n * 1000000 ≤ n * 1000000
  pub offset_room : e + unstamped stamp n * 15 ≤ n * 15

-- a turn of the walk, by rule r, into v: the sums stay within the limits, one transition less is left, and the walk goes on from r's source
pub record Turn (S : Shape) (D : ℕ → ℕ) (n : ℕ) (par : List ℕ) (from number : ℕ) (stamp₀ stamp delays' offsets' : List ℕ) (v a e r : ℕ) : Type 0 where
  pub is_rule : r < S.rules
  pub delay_fits : a + D r ≤ n * 1000000
  pub offset_fits : e + S.offset r ≤ n * 15
  pub less : unstamped (set stamp v number) n < unstamped stamp n
  pub on : (u : ℕ) → u ≡ S.source r → Walking S D n par from number stamp₀ (set stamp v number) (set delays' v a) (set offsets' v e) u (a + D r) (e + S.offset r)

-- what was met, if anything was, is a closed walk of parents
abbrev pub Sums : Shape → (ℕ → ℕ) → ℕ → List ℕ → Option Met → Type 0
Sums S D n par met = ForSome met (λ w. ParentLoop S D par n w.delays w.offsets)

-- what a walk from `from` leaves, and what it met
pub record Walked (S : Shape) (D : ℕ → ℕ) (n : ℕ) (par : List ℕ) (from number : ℕ) (stamp₀ stamp delays' offsets' : List ℕ) (met : Option Met) : Type 0 where
  pub room : Room stamp delays' offsets'
  pub low : (w : ℕ) → get_or stamp w 0 ≤ number
  pub sums : Sums S D n par met
  pub none : met ≡ None → ((w : ℕ) → 0 < get_or stamp₀ w 0 → Grounded S n par w)
      → Grounded S n par from × ((w : ℕ) → 0 < get_or stamp w 0 → Grounded S n par w)

module _ (S : Shape) (D : ℕ → ℕ) (n : ℕ) (par : List ℕ) (from number : ℕ) (stamp₀ : List ℕ) where
  pub walking_start : (delays' offsets' : List ℕ) → Fresh n from number stamp₀ delays' offsets' → Walking S D n par from number stamp₀ stamp₀ delays' offsets' from 0 0
  walking_start delays' offsets' f =
      record {
        here = f.from_below;
        room = f.room;
        kept = λ w. inl refl;
        back = λ w e. absurd (omega (arith, e, f.above w));
        start = inl refl;
        delay_room = omega (arith, unstamped_most stamp₀ n);
        offset_room = omega (arith, unstamped_most stamp₀ n);
      }

  -- where the walk ends: at a stamp of its own the sums are no less than they were
  module _ (stamp delays' offsets' : List ℕ) (v a e : ℕ) (at : Walking S D n par from number stamp₀ stamp delays' offsets' v a e) where
    low' : ((w : ℕ) → get_or stamp₀ w 0 < number) → (w : ℕ) → get_or stamp w 0 ≤ number
    low' above w = ⊎_elim (λ s. omega (arith, s, above w)) (λ m. omega (arith, m)) (at.kept w)

    pub sums_rise : get_or stamp v 0 ≡ number → (get_or delays' v 0 ≤ a) × (get_or offsets' v 0 ≤ e)
    sums_rise m = let b = at.back v m in (omega (arith, b.delays_are), omega (arith, b.offsets_are))

    -- at its own stamp: it came round
    pub walked_loop : ((w : ℕ) → get_or stamp₀ w 0 < number) → get_or stamp v 0 ≡ number → (a' e' : ℕ) → a' ≡ a - get_or delays' v 0 → e' ≡ e - get_or offsets' v 0
        → Walked S D n par from number stamp₀ stamp delays' offsets' (Some (record { delays = a'; offsets = e' }))
    walked_loop above m a' e' p q =
        let b = at.back v m in
        record {
          room = at.room;
          low = low' above;
          sums = λ w s. rw (← same_Some _ _ s)
              (record {
                at = v;
                walk = b.walk;
                some_rule = b.some_rule;
                closed = b.walks;
                parents = b.parents;
                delays_are = omega (arith, b.delays_are, p);
                offsets_are = omega (arith, b.offsets_are, q);
                delays_low = omega (arith, at.delay_room, p);
                offsets_low = omega (arith, at.offset_room, q);
              });
          none = λ f. absurd cc;
        }

    -- from a grounded transition everything that the walk passed is grounded
    all_grounded : Grounded S n par v → ((w : ℕ) → 0 < get_or stamp₀ w 0 → Grounded S n par w) → Grounded S n par from × ((w : ℕ) → 0 < get_or stamp w 0 → Grounded S n par w)
    all_grounded g old = (⊎_elim (λ s. rw s g) (λ m. on from m) at.start, λ w b. ⊎_elim (λ s. old w (rw s at b)) (λ m. on w m) (at.kept w))
      where
        on : (w : ℕ) → get_or stamp w 0 ≡ number → Grounded S n par w
        on w m = let b = at.back w m in grounded_step S n par v w b.walk g b.walks b.parents

    walked_none : ((w : ℕ) → get_or stamp₀ w 0 < number) → (((w : ℕ) → 0 < get_or stamp₀ w 0 → Grounded S n par w) → Grounded S n par v)
        → Walked S D n par from number stamp₀ stamp delays' offsets' None
    walked_none above g =
        record { room = at.room; low = low' above; sums = λ w s. absurd cc; none = λ f old. all_grounded (g old) old }

    -- at a transition without a parent, or at the stamp of an earlier walk
    pub walked_root : ((w : ℕ) → get_or stamp₀ w 0 < number) → get_or par v 0 ≡ 0 → Walked S D n par from number stamp₀ stamp delays' offsets' None
    walked_root above e = walked_none above (λ old. grounded_root S n par v at.here e)

    pub walked_met : ((w : ℕ) → get_or stamp₀ w 0 < number) → 0 < get_or stamp v 0 → ¬ (get_or stamp v 0 ≡ number) → Walked S D n par from number stamp₀ stamp delays' offsets' None
    walked_met above b d = walked_none above (λ old. ⊎_elim (λ s. old v (rw s at b)) (λ m. absurd (d m)) (at.kept v))

module _ (S : Shape) (D : ℕ → ℕ) (n : ℕ) (par : List ℕ) (ready : Ready S D n par) (from number : ℕ) (stamp₀ : List ℕ) where
  -- at v, which is not stamped: its parent is rule r
  module _ (counted : 0 < number) (few : n ≤ 256) (stamp delays' offsets' : List ℕ) (v a e r : ℕ)
      (at : Walking S D n par from number stamp₀ stamp delays' offsets' v a e) (fresh : get_or stamp v 0 ≡ 0) (parent : get_or par v 0 ≡ suc r) where
    is_rule : r < S.rules
    is_rule = (ready.valid v r parent).0

    in_stamp : v < length stamp
    in_stamp = omega (arith, at.here, at.room.stamps)

    -- one transition less is left
    stamped : unstamped stamp n ≡ unstamped (set stamp v number) n + 1
    stamped = unstamped_set stamp v number in_stamp fresh counted n at.here

    from_source : (w : ℕ) → get_or (set stamp v number) w 0 ≡ number → Back S D par (S.source r) w (a + D r) (e + S.offset r) (get_or (set delays' v a) w 0) (get_or (set offsets' v e) w 0)
    from_source w m =
        by_cases (ℕ_discrete w v)
        (λ s. record {
          walk = r ∷ [];
          some_rule = omega arith;
          walks = (is_rule, refl, cc (s, (ready.valid v r parent).1));
          parents = (rw (ready.valid v r parent).1 parent, tt);
          delays_are = rw s (omega (arith, get_or-set_same delays' v a 0 (omega (arith, at.here, at.room.delay_sums))));
          offsets_are = rw s (omega (arith, get_or-set_same offsets' v e 0 (omega (arith, at.here, at.room.offset_sums))));
        })
        (λ d. longer w d (at.back w (rw (get_or-set_other stamp v w number 0 d) at m)))
      where
        longer : (w : ℕ) → ¬ (w ≡ v) → Back S D par v w a e (get_or delays' w 0) (get_or offsets' w 0)
            → Back S D par (S.source r) w (a + D r) (e + S.offset r) (get_or (set delays' v a) w 0) (get_or (set offsets' v e) w 0)
        longer w d b =
            record {
              walk = r ∷ b.walk;
              some_rule = omega arith;
              walks = (is_rule, refl, rw (ready.valid v r parent).1 b.walks);
              parents = (rw (ready.valid v r parent).1 parent, b.parents);
              delays_are = omega (arith, b.delays_are, get_or-set_other delays' v w a 0 d);
              offsets_are = omega (arith, b.offsets_are, get_or-set_other offsets' v w e 0 d);
            }

    walking_on : Walking S D n par from number stamp₀ (set stamp v number) (set delays' v a) (set offsets' v e) (S.source r) (a + D r) (e + S.offset r)
    walking_on =
        record {
          here = (ready.fits r is_rule).0;
          room = record { stamps = simp length-set at.room.stamps; delay_sums = simp length-set at.room.delay_sums; offset_sums = simp length-set at.room.offset_sums };
          kept = kept';
          back = from_source;
          start = inr (start' at.start);
          delay_room = omega (arith, at.delay_room, ready.delay_low r is_rule, stamped);
          offset_room = omega (arith, at.offset_room, ready.offset_low r is_rule, stamped);
        }
      where
        kept' : (w : ℕ) → (get_or (set stamp v number) w 0 ≡ get_or stamp₀ w 0) ⊎ (get_or (set stamp v number) w 0 ≡ number)
        kept' w =
            by_cases (ℕ_discrete w v)
            (λ s. inr (rw s (get_or-set_same stamp v number 0 in_stamp)))
            (λ d. rw (get_or-set_other stamp v w number 0 d) (at.kept w))

        start' : (from ≡ v) ⊎ (get_or stamp from 0 ≡ number) → get_or (set stamp v number) from 0 ≡ number
        start' x =
            by_cases (ℕ_discrete from v)
            (λ s. rw s (get_or-set_same stamp v number 0 in_stamp))
            (λ d. ⊎_elim (λ s. absurd (d s)) (λ m. rw (get_or-set_other stamp v from number 0 d) m) x)

    turned : Turn S D n par from number stamp₀ stamp delays' offsets' v a e r
    turned =
        record {
          is_rule = is_rule;
          delay_fits = omega (arith, at.delay_room, ready.delay_low r is_rule, stamped);
          offset_fits = omega (arith, at.offset_room, ready.offset_low r is_rule, stamped);
          less = omega (arith, stamped);
          on = λ u s. rw s walking_on;
        }

  -- A TURN, by the code of the parent
  pub turn : (delays₀ offsets₀ : List ℕ) → Fresh n from number stamp₀ delays₀ offsets₀ → (stamp delays' offsets' : List ℕ) (v a e code : ℕ)
      → Walking S D n par from number stamp₀ stamp delays' offsets' v a e → get_or stamp v 0 ≡ 0 → code ≡ get_or par v 0 → 0 < code
      → Turn S D n par from number stamp₀ stamp delays' offsets' v a e (code - 1)
  turn delays₀ offsets₀ f stamp delays' offsets' v a e code at fresh is some =
      turned f.counted f.few stamp delays' offsets' v a e (code - 1) at fresh (omega (arith, is))

-- sums whose products are far below 2 ^ 64
pub record Low (a e : ℕ) : Type 0 where
  pub delays_low : a ≤ 256000000
  pub offsets_low : e ≤ 3840

-- one of the two is kept, and one that was met if there is one
pub record Kept (x y r : Option Met) : Type 0 where
  pub either : (r ≡ x) ⊎ (r ≡ y)
  pub left : r ≡ None → x ≡ None
  pub right : r ≡ None → y ≡ None

pub kept_left : {x y r : Option Met} → y ≡ None → r ≡ x → Kept x y r
kept_left n e = record { either = inl e; left = λ f. cc; right = λ f. n }

pub kept_right : {x y r : Option Met} {w : Met} → y ≡ Some w → r ≡ y → Kept x y r
kept_right t e = record { either = inr e; left = λ f. absurd cc; right = λ f. cc }

pub kept_one : {x y r : Option Met} {v w u : Met} → x ≡ Some v → y ≡ Some w → r ≡ Some u → (u ≡ v) ⊎ (u ≡ w) → Kept x y r
kept_one s t e which = record { either = ⊎_elim (λ u. inl cc) (λ u. inr cc) which; left = λ f. absurd cc; right = λ f. absurd cc }

-- what the walks from the first k transitions leave, and the closed walk that is kept
pub record Looked (S : Shape) (D : ℕ → ℕ) (n : ℕ) (par : List ℕ) (k : ℕ) (stamp delays' offsets' : List ℕ) (met : Option Met) : Type 0 where
  pub inside : k ≤ n
  pub room : Room stamp delays' offsets'
  pub low : (w : ℕ) → get_or stamp w 0 ≤ k
  pub sums : Sums S D n par met
  pub none : met ≡ None → ((w : ℕ) → w < k → Grounded S n par w) × ((w : ℕ) → 0 < get_or stamp w 0 → Grounded S n par w)

module _ (S : Shape) (D : ℕ → ℕ) (n : ℕ) (par : List ℕ) where
  pub looked_start : Looked S D n par 0 (replicate 256 0) (replicate 256 0) (replicate 256 0) None
  looked_start =
      record {
        inside = omega arith;
        room = record { stamps = length-replicate {A = ℕ} 256 0; delay_sums = length-replicate {A = ℕ} 256 0; offset_sums = length-replicate {A = ℕ} 256 0 };
        low = λ w. omega (arith, zeros_at 256 w);
        sums = λ w s. absurd cc;
        none = λ f. (λ w b. absurd (omega (arith, b)), λ w b. absurd (omega (arith, b, zeros_at 256 w)));
      }

  module _ (k : ℕ) (stamp delays' offsets' : List ℕ) (met : Option Met) (l : Looked S D n par k stamp delays' offsets' met) (left : k < n) where
    -- the next walk may start
    pub looked_next : n ≤ 256 → Fresh n k (k + 1) stamp delays' offsets'
    looked_next few = record { few = few; from_below = left; counted = omega arith; above = λ w. omega (arith, l.low w); room = l.room }

    -- ONE WALK MORE
    pub looked_on : (stamp' delays'' offsets'' : List ℕ) (y r : Option Met) → Walked S D n par k (k + 1) stamp stamp' delays'' offsets'' y
        → Kept met y r → Looked S D n par (k + 1) stamp' delays'' offsets'' r
    looked_on stamp' delays'' offsets'' y r w kept =
        record {
          inside = omega arith;
          room = w.room;
          low = λ v. omega (arith, w.low v);
          sums = ⊎_elim (λ s. rw s l.sums) (λ s. rw s w.sums) kept.either;
          none = λ f. let old = l.none (kept.left f) in let new = w.none (kept.right f) old.1 in (λ v b. by_cases (ℕ_discrete v k) (λ s. rw s new.0) (λ d. old.0 v (omega arith)), new.1);
        }

  pub looked_all : (k : ℕ) (stamp delays' offsets' : List ℕ) (met : Option Met) → Looked S D n par k stamp delays' offsets' met → n ≤ k → Scanned S D n par met
  looked_all k stamp delays' offsets' met l all = record { some = l.sums; none = λ f v b. (l.none f).0 v (omega arith) }

  -- sums over at most 256 rules are low
  pub sums_low : (met : Option Met) (w : Met) → Sums S D n par met → met ≡ Some w → n ≤ 256 → Low w.delays w.offsets
  sums_low met w s is few = let l = s w is in record { delays_low = omega (arith, l.delays_low); offsets_low = omega (arith, l.offsets_low) }

-- the columns of a checked table are ready
pub ready : (source target offset delay par : List ℕ) (m n : ℕ) → (Limits source target offset m n) × (Short delay m) × (Valid (shape source target offset m) par)
    → Ready (shape source target offset m) (delay_at delay) n par
ready source target offset delay par m n g = record { fits = g.0.fits; offset_low = g.0.small_offsets; delay_low = g.1; valid = g.2 }
