-- An order of the transitions in which the source of a rule of offset 0 comes before its target. The rules stand in groups by target.
--
--   Blocked G from to done
--                     == of the rules at the places from `from` to `to`, one of offset 0 has a source that is not done
--   Ready G v done r
--                     == r says whether none of the rules into v has
--   Stuck G done v
--                     == every transition below v that is not done is blocked
--   Next G n done v
--                     == v is a transition that is not done and not blocked
--   Found G n done o
--                     == o is one that is not done and not blocked; or it is none, and every transition that is not done is blocked
--   Ranked G n
--                     == there is a rank that rises along every rule of offset 0
--   Ordered G n k order
--                     == the first k places of the order: all different, and the source of a rule of offset 0 stands before its target
--   Complete G n order
--                     == an order of all n transitions
--   total done n      == how many of the first n are done
--   Placing G n k order done
--                     == the search for the order, with k places filled
use Rattle.std.specs.Prelude.{◌≡◌, Bool, true, false, cond, ◌≢◌, List, length, set, replicate, Option, Some, None, IsSome}
use Rattle.std.proofs.Math.Path.{refl, ap}
use Rattle.std.proofs.Common.{sym, subst, ◌∙◌, true≢false, length-set}
use Rattle.std.proofs.lemmas.Bool.{false≢true}
use Rattle.std.proofs.Math.Logic.{by_cases}
use Prim.Native.Nat.{ℕ, zero, suc, ◌+◌, ◌≤◌, ◌<◌}
use native.Mathlib.Omega.{arith}
use Rattle.std.proofs.Math.Decide.{ℕ_discrete}
use Rattle.std.proofs.Math.ListN.{get_or}
use Rattle.std.proofs.lemmas.List.{length-replicate}
use Rattle.std.proofs.Math.Seq.{get_or-set_same, get_or-set_other}
use Rattle.simulation.specs.declared.group.Groups.{Groups}
use Rattle.simulation.specs.Groups.{Within, Bounded}

pub record Blocked (G : Groups) (from to : ℕ) (done : List Bool) : Type 0 where
  pub place : ℕ
  pub from_low : from ≤ place
  pub to_high : place < to
  pub at_once : get_or G.offsets place 0 ≡ 0
  pub undone : get_or done (get_or G.sources place 0) false ≡ false

-- none of them is blocked by a source that is not done
pub record Clear (G : Groups) (from to : ℕ) (done : List Bool) : Type 0 where
  pub each : (j : ℕ) → from ≤ j → j < to → get_or G.offsets j 0 ≡ 0 → get_or done (get_or G.sources j 0) false ≡ true

pub record Ready (G : Groups) (v : ℕ) (done : List Bool) (r : Bool) : Type 0 where
  pub clear : r ≡ true → Clear G (get_or G.first v 0) (get_or G.first (v + 1) 0) done
  pub blocked : r ≡ false → Blocked G (get_or G.first v 0) (get_or G.first (v + 1) 0) done

-- every transition below v that is not done is blocked
pub record Stuck (G : Groups) (done : List Bool) (v : ℕ) : Type 0 where
  pub each : (u : ℕ) → u < v → get_or done u false ≡ false → Blocked G (get_or G.first u 0) (get_or G.first (u + 1) 0) done

pub record Next (G : Groups) (n : ℕ) (done : List Bool) (v : ℕ) : Type 0 where
  pub low : v < n
  pub undone : get_or done v false ≡ false
  pub clear : Clear G (get_or G.first v 0) (get_or G.first (v + 1) 0) done

abbrev pub Found : Groups → ℕ → List Bool → Option ℕ → Type 0
Found G n done (Some v) = Next G n done v
Found G n done None = Stuck G done n

pub record Ranked (G : Groups) (n : ℕ) : Type 0 where
  pub rank : List ℕ
  pub rises : (v j : ℕ) → v < n → Within G.first v j → get_or G.offsets j 0 ≡ 0 → get_or rank (get_or G.sources j 0) 0 < get_or rank v 0

pub record Ordered (G : Groups) (n k : ℕ) (order : List ℕ) : Type 0 where
  pub low : (i : ℕ) → i < k → get_or order i 0 < n
  pub different : (h i : ℕ) → h < i → i < k → get_or order h 0 ≢ get_or order i 0
  pub source_first : (i j : ℕ) → i < k → Within G.first (get_or order i 0) j → get_or G.offsets j 0 ≡ 0 → (h : ℕ) × (h < i) × (get_or order h 0 ≡ get_or G.sources j 0)

pub record Complete (G : Groups) (n : ℕ) (order : List ℕ) : Type 0 where
  pub ordered : Ordered G n n order
  pub all : (v : ℕ) → v < n → (k : ℕ) × (k < n) × (get_or order k 0 ≡ v)

unfoldable pub total : List Bool → ℕ → ℕ
total done zero = 0
total done (suc k) = total done k + cond (get_or done k false) 1 0

pub record Placing (G : Groups) (n k : ℕ) (order : List ℕ) (done : List Bool) : Type 0 where
  pub ordered : Ordered G n k order
  pub order_room : length order ≡ 256
  pub done_room : length done ≡ 256
  pub count : total done n ≡ k
  pub marked : (i : ℕ) → i < k → get_or done (get_or order i 0) false ≡ true
  pub listed : (v : ℕ) → v < n → get_or done v false ≡ true → (i : ℕ) × (i < k) × (get_or order i 0 ≡ v)

-- flags ----------------------------------------------------------------------------------------------------------------------------------------
none_done : (L v : ℕ) → get_or (replicate L false) v false ≡ false
none_done zero v = refl
none_done (suc L) zero = refl
none_done (suc L) (suc v) = none_done L v

not_false : (b : Bool) → b ≢ false → b ≡ true
not_false true d = refl
not_false false d = absurd (d refl)

one_most : (b : Bool) → cond b 1 0 ≤ 1
one_most true = omega arith
one_most false = omega arith

-- how many are done ----------------------------------------------------------------------------------------------------------------------------
module _ (done : List Bool) where
  -- one more
  total_other : (v k : ℕ) → k ≤ v → total (set done v true) k ≡ total done k
  unfolding total
  total_other v zero l = refl
  total_other v (suc k) l = rw (total_other v k (omega arith), get_or-set_other done v k true false (λ e. omega arith)) refl

  total_mark : (v k : ℕ) → v < length done → get_or done v false ≡ false → v < k → total (set done v true) k ≡ total done k + 1
  unfolding total
  total_mark v zero r u l = absurd (omega arith)
  total_mark v (suc k) r u l =
      by_cases (ℕ_discrete v k)
      (λ e.
      let here : get_or (set done v true) k false ≡ true = ap (λ x. get_or (set done v true) x false) (sym e) ∙ get_or-set_same done v true false r in
      let was : get_or done k false ≡ false = ap (λ x. get_or done x false) (sym e) ∙ u in
      rw (here, was) (omega (arith, total_other v k (omega arith))))
      (λ d. rw (get_or-set_other done v k true false (λ e. d (sym e))) (omega (arith, total_mark v k r u (omega arith))))

  -- all of them
  total_all : (k : ℕ) → ((v : ℕ) → v < k → get_or done v false ≡ true) → total done k ≡ k
  unfolding total
  total_all zero h = refl
  total_all (suc k) h = rw (h k (omega arith)) (omega (arith, total_all k (λ v l. h v (omega arith))))

  -- and if one is left, fewer
  total_most : (k : ℕ) → total done k ≤ k
  unfolding total
  total_most zero = omega arith
  total_most (suc k) = omega (arith, total_most k, one_most (get_or done k false))

  total_left : (v k : ℕ) → v < k → get_or done v false ≡ false → total done k < k
  unfolding total
  total_left v zero l u = absurd (omega arith)
  total_left v (suc k) l u =
      by_cases (ℕ_discrete v k)
      (λ e.
      let was : get_or done k false ≡ false = ap (λ x. get_or done x false) (sym e) ∙ u in
      rw was (omega (arith, total_most k)))
      (λ d. omega (arith, total_left v k (omega arith) u, one_most (get_or done k false)))

pub total_none : (L k : ℕ) → total (replicate L false) k ≡ 0
unfolding total
total_none L zero = refl
total_none L (suc k) = rw (none_done L k) (omega (arith, total_none L k))

-- whether a group is clear ---------------------------------------------------------------------------------------------------------------------
module _ (G : Groups) (from : ℕ) (done : List Bool) where
  pub clear_start : Clear G from from done
  clear_start = record { each = λ j a b z. absurd (omega arith) }

  pub clear_step : (k : ℕ) → Clear G from k done → (get_or G.offsets k 0 ≡ 0 → get_or done (get_or G.sources k 0) false ≡ true) → Clear G from (k + 1) done
  clear_step k old new = record { each = λ j a b z. by_cases (ℕ_discrete j k) (λ e. rw e (new (rw e at z))) (λ d. old.each j a (omega arith) z) }

module _ (G : Groups) (v : ℕ) (done : List Bool) where
  pub ready_clear : (k : ℕ) → get_or G.first (v + 1) 0 ≤ k → Clear G (get_or G.first v 0) k done → Ready G v done true
  ready_clear k l h = record { clear = λ e. record { each = λ j a b. h.each j a (omega arith) }; blocked = λ e. absurd (true≢false e) }

  pub ready_blocked : (j s : ℕ) → Within G.first v j → get_or G.offsets j 0 ≡ 0 → s ≡ get_or G.sources j 0 → get_or done s false ≡ false → Ready G v done false
  ready_blocked j s w z e u =
      record { clear = λ f. absurd (false≢true f); blocked = λ f. record { place = j; from_low = w.0; to_high = w.1; at_once = z; undone = rw (← e) u } }

-- the next transition --------------------------------------------------------------------------------------------------------------------------
module _ (G : Groups) (done : List Bool) where
  pub stuck_start : Stuck G done 0
  stuck_start = record { each = λ u l z. absurd (omega arith) }

  stuck_step : (v : ℕ) → Stuck G done v → (get_or done v false ≡ false → Blocked G (get_or G.first v 0) (get_or G.first (v + 1) 0) done)
      → Stuck G done (v + 1)
  stuck_step v old new = record { each = λ u l z. by_cases (ℕ_discrete u v) (λ e. rw e (new (rw e at z))) (λ d. old.each u (omega arith) z) }

  pub stuck_done : (v : ℕ) → Stuck G done v → get_or done v false ≡ true → Stuck G done (v + 1)
  stuck_done v old d = stuck_step v old (λ z. absurd (true≢false (sym d ∙ z)))

  module _ (v : ℕ) (r : Bool) (ready : Ready G v done r) where
    pub stuck_blocked : Stuck G done v → r ≡ false → Stuck G done (v + 1)
    stuck_blocked old f = stuck_step v old (λ z. ready.blocked f)

    pub found_here : (n : ℕ) → v < n → get_or done v false ≡ false → r ≡ true → Next G n done v
    found_here n l u t = record { low = l; undone = u; clear = ready.clear t }

-- place after place ----------------------------------------------------------------------------------------------------------------------------
module _ (G : Groups) (n : ℕ) where
  pub placing_start : Placing G n 0 (replicate 256 0) (replicate 256 false)
  placing_start =
      record {
        ordered = record { low = λ i l. absurd (omega arith); different = λ h i a b. absurd (omega arith); source_first = λ i j l w z. absurd (omega arith) };
        order_room = length-replicate {A = ℕ} 256 0;
        done_room = length-replicate {A = Bool} 256 false;
        count = total_none 256 n;
        marked = λ i l. absurd (omega arith);
        listed = λ v l u. absurd (false≢true (sym (none_done 256 v) ∙ u));
      }

  module _ (bounded : Bounded G n) (k : ℕ) (order : List ℕ) (done : List Bool) (old : Placing G n k order done) where
    flag : (v : ℕ) → get_or done v false ≢ false → get_or done v false ≡ true
    flag v = not_false (get_or done v false)

    -- of what is not done the lowest in rank is not blocked
    none_left : (ranked : Ranked G n) → Stuck G done n → (b v : ℕ) → v < n → get_or done v false ≡ false → get_or ranked.rank v 0 < b → ⊥
    none_left ranked stuck zero v l u h = omega arith
    none_left ranked stuck (suc b) v l u h =
        let x = stuck.each v l u in
        let w : Within G.first v x.place = (x.from_low, x.to_high) in
        none_left ranked stuck b (get_or G.sources x.place 0) (bounded.sources_low v x.place l w) x.undone (omega (arith, ranked.rises v x.place l w x.at_once))

    -- while a place is free there is a transition for it
    pub found_some : Ranked G n → k < n → (o : Option ℕ) → Found G n done o → IsSome o
    found_some ranked l (Some v) f = refl
    found_some ranked l None stuck =
        let all = total_all done n (λ u b. flag u (λ z. none_left ranked stuck (suc (get_or ranked.rank u 0)) u b z (omega arith))) in
        absurd (omega (arith, old.count))

    -- when all places are filled every transition has one
    pub placing_end : k ≡ n → Complete G n order
    placing_end e =
        record {
          ordered = subst (λ x. Ordered G n x order) e old.ordered;
          all = λ v l.
              let i = old.listed v l (flag v (λ z. omega (arith, total_left done v n l z, old.count))) in
              (i.0, omega (arith, i.1), i.2);
        }

    module _ (v : ℕ) (free : k < n) (f : Next G n done v) where
      abbrev order' : List ℕ
      order' = set order k v

      abbrev done' : List Bool
      done' = set done v true

      marked_differs : (u : ℕ) → get_or done u false ≡ true → u ≢ v
      marked_differs u m e = true≢false (sym m ∙ rw e f.undone)

      order_here : get_or order' k 0 ≡ v
      order_here = get_or-set_same order k v 0 (omega (arith, old.order_room, bounded.few))

      order_same : (i : ℕ) → i < k → get_or order' i 0 ≡ get_or order i 0
      order_same i b = get_or-set_other order k i v 0 (λ e. omega arith)

      done_here : get_or done' v false ≡ true
      done_here = get_or-set_same done v true false (omega (arith, old.done_room, bounded.few, f.low))

      -- a fact of the last place and of those before is one of each
      each : (C : ℕ → ℕ → Type 0) → ((i : ℕ) → i < k → C i (get_or order i 0)) → C k v → (i : ℕ) → i < k + 1 → C i (get_or order' i 0)
      each C a b i c =
          by_cases (ℕ_discrete i k)
          (λ e. rw (e, order_here) b)
          (λ d. let h : i < k = omega arith in rw (order_same i h) (a i h))

      next_different : (h i : ℕ) → h < i → i < k + 1 → get_or order' h 0 ≢ get_or order' i 0
      next_different h i a b =
          each (λ i x. h < i → get_or order' h 0 ≢ x)
          (λ i c a. rw (order_same h (omega arith)) (old.ordered.different h i a c))
          (λ a e. marked_differs (get_or order h 0) (old.marked h a) (sym (order_same h a) ∙ e))
          i b a

      next_first : (i j : ℕ) → i < k + 1 → Within G.first (get_or order' i 0) j → get_or G.offsets j 0 ≡ 0 → (h : ℕ) × (h < i) × (get_or order' h 0 ≡ get_or G.sources j 0)
      next_first i j b =
          each (λ i x. Within G.first x j → get_or G.offsets j 0 ≡ 0 → (h : ℕ) × (h < i) × (get_or order' h 0 ≡ get_or G.sources j 0))
          (λ i c w z. let p = old.ordered.source_first i j c w z in (p.0, p.1, order_same p.0 (omega (arith, p.1)) ∙ p.2))
          (λ w z.
          let s = get_or G.sources j 0 in
          let p = old.listed s (bounded.sources_low v j f.low w) (f.clear.each j w.0 w.1 z) in
          (p.0, p.1, order_same p.0 p.1 ∙ p.2))
          i b

      next_marked : (i : ℕ) → i < k + 1 → get_or done' (get_or order' i 0) false ≡ true
      next_marked =
          each (λ i x. get_or done' x false ≡ true)
          (λ i c. get_or-set_other done v (get_or order i 0) true false (marked_differs (get_or order i 0) (old.marked i c)) ∙ old.marked i c)
          done_here

      next_listed : (u : ℕ) → u < n → get_or done' u false ≡ true → (i : ℕ) × (i < k + 1) × (get_or order' i 0 ≡ u)
      next_listed u b m =
          by_cases (ℕ_discrete u v)
          (λ e. (k, omega arith, order_here ∙ sym e))
          (λ d.
          let p = old.listed u b (sym (get_or-set_other done v u true false d) ∙ m) in
          (p.0, omega (arith, p.1), order_same p.0 p.1 ∙ p.2))

      pub placing_step : Placing G n (k + 1) (set order k v) (set done v true)
      placing_step =
          record {
            ordered = record { low = each (λ i x. x < n) old.ordered.low f.low; different = next_different; source_first = next_first };
            order_room = simp length-set old.order_room;
            done_room = simp length-set old.done_room;
            count = omega (arith, total_mark done v n (omega (arith, old.done_room, bounded.few, f.low)) f.undone f.low, old.count);
            marked = next_marked;
            listed = next_listed;
          }
