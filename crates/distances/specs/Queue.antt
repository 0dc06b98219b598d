-- How distances to v are found: breadth first. A transition whose distance was found joins a queue; the rules into it are looked at when its turn comes,
-- so that the distances in the queue never fall. S is the shape of the rules.
--
--   unknown n d                == how many of the n distances were not found
--   Queued S n v d order k     == the first k places of order hold the transitions whose distances were found, nearest first
--   queue_past, queue_put      a place past those k is written, and a new distance joins them
--   queue_room, queue_full     fewer than n were found where one was not; with n, each was
--   Noted s x ..               == s is x away, unless its distance was found before
--   Stem S v t x               == the source of each rule into t has a walk of x rules to v
--   Searching S n v t x ..     == the rules into t may be looked at; ready_home, ready_next
--   Looking ..                 == where the loop over the rules into t is: those from left on are done; looking_starts, looking_next, looking_full
--   Spreading ..               == where the loop over the queue is; spreading_starts, spreading_next, spreading_ends
--   Sought S n v d k           == the distances of all transitions to v, of which k were found
use Rattle.std.specs.Prelude.{◌≡◌, refl, ◌⊎◌, ◌≢◌, List, ◌∷◌, [], ℕ, ◌+◌, ◌-◌, ◌≤◌, ◌<◌, length, get_or, set, replicate}
use Rattle.std.proofs.Common.{ap, sym, ◌∙◌, ⊎_elim, arith, get_or-set_same, get_or-set_other}
use Rattle.std.proofs.Math.Logic.{by_cases}
use Rattle.std.proofs.Math.Decide.{ℕ_discrete, dec_lt}
use Rattle.std.proofs.lemmas.List.{get_or-replicate, set-get_or}
use Rattle.model.specs.Shape.{Shape, Fits}
use Rattle.peel.specs.Sum.{sum, sum_but, sum_most, sign, sign_some, sign_none, sign_most, inside}
use Rattle.peel.specs.Linked.{Row, row_none, row_set}
use Rattle.distances.specs.Near.{Way, Near, near_none, near_put, Settled, away_other}

-- how many of the n distances were not found: 512 stands for those
abbrev pub unknown : ℕ → List ℕ → ℕ
unknown n d = sum n (λ x. sign (get_or d x 0 - 511))

-- the first k places of order hold the transitions whose distances were found, nearest first; no distance is beyond its place
pub record Queued (S : Shape) (n v : ℕ) (d order : List ℕ) (k : ℕ) : Type 0 where
  pub near : Near S v d
  pub room : n ≤ 256
  pub row : Row n order
  pub listed : (x : ℕ) → x < 256 → get_or d x 0 < 512 → (i : ℕ) × (i < k) × (get_or order i 0 ≡ x)
  pub found : (i : ℕ) → i < k → get_or d (get_or order i 0) 0 < 512
  pub rising : (i j : ℕ) → i ≤ j → j < k → get_or d (get_or order i 0) 0 ≤ get_or d (get_or order j 0) 0
  pub slow : (i : ℕ) → i < k → get_or d (get_or order i 0) 0 ≤ i + 1
  pub few : k + unknown n d ≤ n

-- s is x away, unless its distance was found before; it stands at the place after the first k₀, which counts where it is new
pub record Noted (s x : ℕ) (d₀ d order₀ order : List ℕ) (k₀ k : ℕ) : Type 0 where
  pub known : get_or d₀ s 0 < 512 → (d ≡ d₀) × (k ≡ k₀)
  pub new : get_or d₀ s 0 ≡ 512 → (d ≡ set d₀ s x) × (k ≡ k₀ + 1)
  pub put : order ≡ set order₀ k₀ s

-- the distance y is stored, and z more count
pub noted : (s x : ℕ) (d order : List ℕ) (k y z : ℕ) → (get_or d s 0 < 512 → y ≡ get_or d s 0) × (get_or d s 0 ≡ 512 → y ≡ x) → (get_or d s 0 < 512 → z ≡ 0) × (get_or d s 0 ≡ 512 → z ≡ 1) →
    Noted s x d (set d s y) order (set order k s) k (k + z)
noted s x d order k y z stored counted =
    record { known = λ l. (rw (stored.0 l) (set-get_or d s 0), omega (arith, counted.0 l)); new = λ e. (ap (set d s) (stored.1 e), omega (arith, counted.1 e)); put = refl }

-- the source of each rule into t has a walk of x rules to v
abbrev pub Stem : Shape → ℕ → ℕ → ℕ → Type 0
Stem S v t x = (r : ℕ) → r < S.rules → S.target r ≡ t → Way S v (S.source r) x

-- the rules into t may be looked at: what they show is x away, and nothing found is farther
pub record Searching (S : Shape) (n v t x : ℕ) (d order : List ℕ) (k : ℕ) : Type 0 where
  pub queued : Queued S n v d order k
  pub stem : Stem S v t x
  pub top : (i : ℕ) → i < k → get_or d (get_or order i 0) 0 ≤ x
  pub soon : x ≤ k + 1
  pub low : x < 512

-- s is written at place k, which is not among the first k
module _ (order : List ℕ) (k s : ℕ) where
  kept : (i : ℕ) → i < k → get_or (set order k s) i 0 ≡ get_or order i 0
  kept i l = get_or-set_other order k i s 0 (λ e. omega arith)

  pub queue_past : (S : Shape) (n v : ℕ) (d : List ℕ) → Queued S n v d order k → k < n → s < n → Queued S n v d (set order k s) k
  queue_past S n v d h more below =
      record {
        near = h.near;
        room = h.room;
        row = row_set n order k s h.row (omega (arith, h.room)) below;
        listed = λ x b l. let t = h.listed x b l in (t.0, t.1, kept t.0 t.1 ∙ t.2);
        found = λ i l. rw (kept i l) (h.found i l);
        rising = λ i j a l. rw (kept i (omega arith), kept j l) (h.rising i j a l);
        slow = λ i l. rw (kept i l) (h.slow i l);
        few = h.few;
      }

-- a new distance x, of s, joins the queue
module _ (S : Shape) (n v s x : ℕ) (d order : List ℕ) (k : ℕ) (h : Queued S n v d order k) (below : s < n) (new : get_or d s 0 ≡ 512) (low : x < 512) where
  in_d : s < length d
  in_d = inside d s (omega arith)

  here : get_or (set d s x) s 0 ≡ x
  here = get_or-set_same d s x 0 in_d

  other : (y : ℕ) → y ≢ s → get_or (set d s x) y 0 ≡ get_or d y 0
  other y e = get_or-set_other d s y x 0 e

  -- one less is unknown
  fewer : unknown n (set d s x) + 1 ≡ unknown n d
  fewer =
      omega (
        arith,
        sum_but n (λ y. sign (get_or (set d s x) y 0 - 511)) (λ y. sign (get_or d y 0 - 511)) s below (λ y e. ap (λ z. sign (z - 511)) (other y e)),
        sign_some (get_or d s 0 - 511) (omega arith),
        sign_none (get_or (set d s x) s 0 - 511) (omega (arith, here)),
      )

  pub queue_room : k < n
  queue_room = omega (arith, h.few, fewer)

  -- none that was found is s
  apart : (i : ℕ) → i < k → get_or order i 0 ≢ s
  apart i l e = omega (arith, new, h.found i l, ap (λ z. get_or d z 0) e)

  last : get_or (set order k s) k 0 ≡ s
  last = get_or-set_same order k s 0 (omega (arith, h.room, h.row.room, queue_room))

  same_far : (i : ℕ) → i < k → get_or (set d s x) (get_or (set order k s) i 0) 0 ≡ get_or d (get_or order i 0) 0
  same_far i l = ap (λ z. get_or (set d s x) z 0) (kept order k s i l) ∙ other (get_or order i 0) (apart i l)

  last_far : get_or (set d s x) (get_or (set order k s) k 0) 0 ≡ x
  last_far = ap (λ z. get_or (set d s x) z 0) last ∙ here

  pub queue_put : Way S v s x → ((i : ℕ) → i < k → get_or d (get_or order i 0) 0 ≤ x) → x ≤ k + 1 → Queued S n v (set d s x) (set order k s) (k + 1)
  queue_put way top soon =
      record {
        near = near_put S v d s x h.near in_d (omega arith) way;
        room = h.room;
        row = row_set n order k s h.row (omega (arith, h.room, queue_room)) below;
        listed = λ y b l. by_cases (ℕ_discrete y s)
            (λ e. (k, omega arith, last ∙ sym e))
            (λ e. let t = h.listed y b (omega (arith, l, other y e)) in (t.0, omega (arith, t.1), kept order k s t.0 t.1 ∙ t.2));
        found = λ i l. by_cases (ℕ_discrete i k) (λ e. rw e (omega (arith, last_far))) (λ e. let b : i < k = omega arith in omega (arith, same_far i b, h.found i b));
        rising = λ i j a l. by_cases (ℕ_discrete j k)
            (λ e. by_cases (ℕ_discrete i k) (λ f. rw (e, f) (omega arith)) (λ f. let b : i < k = omega arith in rw e (omega (arith, last_far, same_far i b, top i b))))
            (λ e. let b : j < k = omega arith in omega (arith, same_far i (omega arith), same_far j b, h.rising i j a b));
        slow = λ i l. by_cases (ℕ_discrete i k) (λ e. rw e (omega (arith, last_far))) (λ e. let b : i < k = omega arith in omega (arith, same_far i b, h.slow i b));
        few = omega (arith, h.few, fewer);
      }

  pub queue_top : ((i : ℕ) → i < k → get_or d (get_or order i 0) 0 ≤ x) → (i : ℕ) → i < k + 1 → get_or (set d s x) (get_or (set order k s) i 0) 0 ≤ x
  queue_top top i l = by_cases (ℕ_discrete i k) (λ e. rw e (omega (arith, last_far))) (λ e. let b : i < k = omega arith in omega (arith, same_far i b, top i b))

-- with n found, each was
pub queue_full : (S : Shape) (n v : ℕ) (d order : List ℕ) (k : ℕ) → Queued S n v d order k → n ≤ k → (x : ℕ) → x < n → get_or d x 0 < 512
queue_full S n v d order k h all x b =
    by_cases (ℕ_discrete (get_or d x 0) 512) (λ e. absurd (omega (arith, queue_room S n v x 0 d order k h b e (omega arith)))) (λ e. omega (arith, h.near.low x))

-- the rules into t from left on were looked at, beginning with the distances d₀ and the queue order₀ of k₀
pub record Looking (S : Shape) (n v t x : ℕ) (d₀ order₀ : List ℕ) (k₀ : ℕ) (d order : List ℕ) (k left : ℕ) : Type 0 where
  pub queued : Queued S n v d order k
  pub top : (i : ℕ) → i < k → get_or d (get_or order i 0) 0 ≤ x
  pub seen : (r : ℕ) → r < S.rules → S.target r ≡ t → left ≤ r → get_or d (S.source r) 0 ≤ x
  pub lower : (y : ℕ) → get_or d y 0 ≤ get_or d₀ y 0
  pub known : (y : ℕ) → get_or d₀ y 0 < 512 → get_or d y 0 ≡ get_or d₀ y 0
  pub before : (i : ℕ) → i < k₀ → get_or order i 0 ≡ get_or order₀ i 0
  pub more : k₀ ≤ k

module _ (S : Shape) (n v t x : ℕ) (d₀ order₀ : List ℕ) (k₀ : ℕ) (ready : Searching S n v t x d₀ order₀ k₀) where
  pub looking_starts : (left : ℕ) → ((r : ℕ) → r < S.rules → S.target r ≡ t → r < left) → Looking S n v t x d₀ order₀ k₀ d₀ order₀ k₀ left
  looking_starts left all =
      record {
        queued = ready.queued;
        top = ready.top;
        seen = λ r b e l. absurd (omega (arith, all r b e));
        lower = λ y. omega arith;
        known = λ y l. refl;
        before = λ i l. refl;
        more = omega arith;
      }

  -- what was found is at most x away
  within : (d order : List ℕ) (k left : ℕ) → Looking S n v t x d₀ order₀ k₀ d order k left → (y : ℕ) → y < n → get_or d y 0 < 512 → get_or d y 0 ≤ x
  within d order k left h y b l = let i = h.queued.listed y (omega (arith, h.queued.room)) l in omega (arith, ap (λ z. get_or d z 0) i.2, h.top i.0 i.1)

  -- ALL WERE FOUND: the rules that are left show nothing new
  pub looking_full : Fits S n → (d order : List ℕ) (k left : ℕ) → Looking S n v t x d₀ order₀ k₀ d order k left → n ≤ k → Looking S n v t x d₀ order₀ k₀ d order k 0
  looking_full fits d order k left h all =
      record {
        queued = h.queued;
        top = h.top;
        seen = λ r b e l. within d order k left h (S.source r) (fits r b).0 (queue_full S n v d order k h.queued all (S.source r) (fits r b).0);
        lower = h.lower;
        known = h.known;
        before = h.before;
        more = h.more;
      }

  -- rule r, from s, is looked at; the next one is below p, and those between come from s too
  module _ (d order : List ℕ) (k left r s p : ℕ) (h : Looking S n v t x d₀ order₀ k₀ d order k left) (more : k < n) (is_rule : r < S.rules) (into : S.target r ≡ t) (from : s ≡ S.source r)
      (below : s < n) (next : (q : ℕ) → q < r → S.target q ≡ t → p ≤ q → S.source q ≡ S.source r) where
    -- a rule into t from p to r comes from s: it is r, or passed over
    passed : (q : ℕ) → S.target q ≡ t → p ≤ q → q ≤ r → S.source q ≡ s
    passed q e a l = by_cases (ℕ_discrete q r) (λ f. ap (λ z. S.source z) f ∙ sym from) (λ f. next q (omega arith) e a ∙ sym from)

    seen_known : get_or d s 0 < 512 → (q : ℕ) → q < S.rules → S.target q ≡ t → p ≤ q → left ≡ r + 1 → get_or d (S.source q) 0 ≤ x
    seen_known l q b e a up =
        by_cases (dec_lt r q) (λ c. h.seen q b e (omega arith)) (λ c. rw (passed q e a (omega arith)) (within d order k left h s below l))

    looking_known : left ≡ r + 1 → get_or d s 0 < 512 → Looking S n v t x d₀ order₀ k₀ d (set order k s) k p
    looking_known up l =
        record {
          queued = queue_past order k s S n v d h.queued more below;
          top = λ i b. rw (kept order k s i b) (h.top i b);
          seen = λ q b e a. seen_known l q b e a up;
          lower = h.lower;
          known = h.known;
          before = λ i b. kept order k s i (omega (arith, h.more)) ∙ h.before i b;
          more = h.more;
        }

    looking_new : left ≡ r + 1 → get_or d s 0 ≡ 512 → Looking S n v t x d₀ order₀ k₀ (set d s x) (set order k s) (k + 1) p
    looking_new up new =
        record {
          queued = queue_put S n v s x d order k h.queued below new ready.low (rw from (ready.stem r is_rule into)) h.top (omega (arith, ready.soon, h.more));
          top = queue_top S n v s x d order k h.queued below new ready.low h.top;
          seen = seen;
          lower = lower;
          known = λ y l. other S n v s x d order k h.queued below new ready.low y (λ e. omega (arith, new, h.known y l, ap (λ z. get_or d z 0) e)) ∙ h.known y l;
          before = λ i l. kept order k s i (omega (arith, h.more)) ∙ h.before i l;
          more = omega (arith, h.more);
        }
      where
        put : get_or (set d s x) s 0 ≡ x
        put = here S n v s x d order k h.queued below new ready.low

        lower : (y : ℕ) → get_or (set d s x) y 0 ≤ get_or d₀ y 0
        lower y =
            by_cases (ℕ_discrete y s)
            (λ e. rw e (omega (arith, put, new, ready.low, h.lower s)))
            (λ e. omega (arith, other S n v s x d order k h.queued below new ready.low y e, h.lower y))

        fell : (y : ℕ) → get_or d y 0 ≤ x → get_or (set d s x) y 0 ≤ x
        fell y l = by_cases (ℕ_discrete y s) (λ e. rw e (omega (arith, put))) (λ e. omega (arith, other S n v s x d order k h.queued below new ready.low y e))

        seen : (q : ℕ) → q < S.rules → S.target q ≡ t → p ≤ q → get_or (set d s x) (S.source q) 0 ≤ x
        seen q b e a =
            by_cases (dec_lt r q) (λ c. fell (S.source q) (h.seen q b e (omega arith))) (λ c. rw (passed q e a (omega arith)) (omega (arith, put)))

    -- ONE RULE
    pub looking_next : left ≡ r + 1 → (d' order' : List ℕ) (k' : ℕ) → Noted s x d d' order order' k k' → Looking S n v t x d₀ order₀ k₀ d' order' k' p
    looking_next up d' order' k' n =
        by_cases (ℕ_discrete (get_or d s 0) 512)
        (λ e. let c = n.new e in rw (c.0, n.put, c.1) (looking_new up e))
        (λ e. let l : get_or d s 0 < 512 = omega (arith, h.queued.near.low s) in let c = n.known l in rw (c.0, n.put, c.1) (looking_known up l))

-- where the loop over the queue is: the rules into v, and into the first done places of the queue, were looked at
pub record Spreading (S : Shape) (n v : ℕ) (d order : List ℕ) (done k : ℕ) : Type 0 where
  pub queued : Queued S n v d order k
  pub behind : done ≤ k
  pub close : (i j : ℕ) → i < k → done ≤ j → j < k → get_or d (get_or order i 0) 0 ≤ get_or d (get_or order j 0) 0 + 1
  pub home : (r : ℕ) → r < S.rules → S.target r ≡ v → get_or d (S.source r) 0 ≤ 1
  pub calm : (i : ℕ) → i < done → (r : ℕ) → r < S.rules → S.target r ≡ get_or order i 0 → get_or d (S.source r) 0 ≤ get_or d (get_or order i 0) 0 + 1

-- the distances of all transitions to v; k were found, and with n all of them
pub record Sought (S : Shape) (n v : ℕ) (d : List ℕ) (k : ℕ) : Type 0 where
  pub near : Near S v d
  pub settled : Settled S v d
  pub all : n ≤ k → (x : ℕ) → x < n → get_or d x 0 < 512

-- a rule, and then a walk from its target
way_over : (S : Shape) (v r k : ℕ) → r < S.rules → Way S v (S.target r) k → Way S v (S.source r) (k + 1)
way_over S v r k b w = record { walk = r ∷ w.walk; size = omega (arith, w.size); some_rule = omega arith; walks = (b, refl, w.walks) }

module _ (S : Shape) (n v : ℕ) where
  -- at first no distance is known
  pub ready_home : 1 ≤ n → n ≤ 256 → Searching S n v v 1 (replicate 256 512) (replicate 256 0) 0
  ready_home some room =
      record {
        queued = record {
          near = near_none S v;
          room = room;
          row = row_none n some;
          listed = λ x b l. absurd (omega (arith, get_or-replicate {A = ℕ} 256 x 512 0 b));
          found = λ i l. absurd (omega arith);
          rising = λ i j a l. absurd (omega arith);
          slow = λ i l. absurd (omega arith);
          few = omega (arith, sum_most n (λ x. sign (get_or (replicate 256 512) x 0 - 511)) (λ x. sign_most (get_or (replicate 256 512) x 0 - 511)));
        };
        stem = λ r b e. record { walk = r ∷ []; size = refl; some_rule = omega arith; walks = (b, refl, e) };
        top = λ i l. absurd (omega arith);
        soon = omega arith;
        low = omega arith;
      }

  pub spreading_starts : (d₀ order₀ d order : List ℕ) (k : ℕ) → Looking S n v v 1 d₀ order₀ 0 d order k 0 → Spreading S n v d order 0 k
  spreading_starts d₀ order₀ d order k h =
      record {
        queued = h.queued;
        behind = omega arith;
        close = λ i j l a b. omega (arith, h.top i l);
        home = λ r b e. h.seen r b e (omega arith);
        calm = λ i l. absurd (omega arith);
      }

  module _ (d order : List ℕ) (done k : ℕ) (h : Spreading S n v d order done k) where
    -- the next in the queue
    module _ (more : done < k) (t x : ℕ) (et : t ≡ get_or order done 0) (ex : x ≡ get_or d t 0 + 1) where
      far_t : x ≡ get_or d (get_or order done 0) 0 + 1
      far_t = omega (arith, ex, ap (λ z. get_or d z 0) et)

      pub ready_next : Searching S n v t x d order k
      ready_next =
          record {
            queued = h.queued;
            stem = λ r b e. rw ex (way_over S v r (get_or d t 0) b (rw e way));
            top = λ i l. omega (arith, far_t, h.close i done l (omega arith) more);
            soon = omega (arith, far_t, h.queued.slow done more);
            low = omega (arith, far_t, h.queued.slow done more, h.queued.few, h.queued.room);
          }
        where
          way : Way S v t (get_or d t 0)
          way = h.queued.near.attained t (omega (arith, et, h.queued.row.low done, h.queued.room)) (omega (arith, ap (λ z. get_or d z 0) et, h.queued.found done more))

      pub spreading_next : (d' order' : List ℕ) (k' : ℕ) → Looking S n v t x d order k d' order' k' 0 → Spreading S n v d' order' (done + 1) k'
      spreading_next d' order' k' l =
          record {
            queued = l.queued;
            behind = omega (arith, l.more);
            close = λ i j b a c. omega (arith, l.top i b, now, l.queued.rising done j (omega arith) c);
            home = λ r b e. omega (arith, h.home r b e, l.lower (S.source r));
            calm = λ i b r c e. by_cases (ℕ_discrete i done)
                (λ s. rw s (omega (arith, now, l.seen r c (e ∙ ap (λ z. get_or order' z 0) s ∙ l.before done more ∙ sym et) (omega arith))))
                (λ s. let b' : i < done = omega arith in omega (arith, same i (omega arith), l.lower (S.source r), h.calm i b' r c (e ∙ l.before i (omega arith))));
          }
        where
          -- what was found before stays
          same : (i : ℕ) → i < k → get_or d' (get_or order' i 0) 0 ≡ get_or d (get_or order i 0) 0
          same i b = ap (λ z. get_or d' z 0) (l.before i b) ∙ l.known (get_or order i 0) (h.queued.found i b)

          now : x ≡ get_or d' (get_or order' done 0) 0 + 1
          now = omega (arith, far_t, same done more)

    -- EVERY RULE WAS LOOKED AT, or shows nothing new: among what was found, nothing is more than one farther than what still waits
    pub spreading_ends : Fits S n → (k ≤ done) ⊎ (n ≤ k) → Sought S n v d k
    spreading_ends fits over = record { near = h.queued.near; settled = settled; all = queue_full S n v d order k h.queued }
      where
        listed : (x : ℕ) → x < n → get_or d x 0 < 512 → (i : ℕ) × (i < k) × (get_or order i 0 ≡ x)
        listed x b l = h.queued.listed x (omega (arith, h.queued.room)) l

        -- the rule's target waits at place j
        waits : (r j : ℕ) → r < S.rules → done ≤ j → j < k → get_or d (S.source r) 0 ≤ get_or d (get_or order j 0) 0 + 1
        waits r j b a l =
            let all : n ≤ k = ⊎_elim (λ (e : k ≤ done). omega arith) (λ (e : n ≤ k). e) over in
            let i = listed (S.source r) (fits r b).0 (queue_full S n v d order k h.queued all (S.source r) (fits r b).0) in
            omega (arith, h.close i.0 j i.1 a l, ap (λ z. get_or d z 0) i.2)

        settled : Settled S v d
        settled r b =
            by_cases (ℕ_discrete (S.target r) v)
            (λ e. omega (arith, h.home r b e))
            (λ e.
            let a = away_other v (S.target r) (get_or d (S.target r) 0) e in
            by_cases (dec_lt (get_or d (S.target r) 0) 512)
            (λ l. let i = listed (S.target r) (fits r b).1 l in
            let same = ap (λ z. get_or d z 0) i.2 in
            by_cases (dec_lt i.0 done) (λ c. omega (arith, a, h.calm i.0 c r b (sym i.2), same)) (λ c. omega (arith, a, waits r i.0 b (omega arith) i.1, same)))
            (λ l. omega (arith, a, h.queued.near.low (S.source r))))
