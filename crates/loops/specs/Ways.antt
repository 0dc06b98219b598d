-- The first of the shortest walks from v back to v: at each transition the lowest rule that comes one nearer.
--
--   Leads S v d r               == rule r comes one nearer to v, by the distances d
--   Chosen, Ways S v d j next   == next holds, of the rules from j on, the lowest such rule from each transition
--   ways_none, ways_passed, ways_led       the loop that makes it
--   followed target next u k    == the k rules met from u on by always taking the rule that next holds
--   Steps                       == every step along next stays inside the arrays
--   followed_first              those are the first shortest walk
use Rattle.std.specs.Prelude.{◌≡◌, refl, ◌≢◌, List, [], ◌∷◌, length, set, replicate}
use Rattle.std.proofs.Common.{ap, ◌∙◌, subst, arith, add-one, length-set, get_or-set_same, get_or-set_other}
use Rattle.std.proofs.Math.Logic.{by_cases}
use Prim.Native.Nat.{ℕ, zero, suc, ◌+◌, ◌≤◌, ◌<◌}
use Rattle.std.proofs.Math.Decide.{ℕ_discrete}
use Rattle.std.proofs.Math.ListN.{get_or}
use Rattle.model.specs.Shape.{Shape}
use Rattle.model.specs.Walk.{Walk}
use Rattle.theory.specs.Near.{FirstWalk, walk_first}
use Rattle.peel.specs.Plain.{plain}
use Rattle.distances.specs.Near.{far, away_home, away_other, away_most, Way, Near, Settled, near_least}
use Rattle.loops.specs.Listed.{Within}

-- rule r comes one nearer to v
abbrev pub Leads : Shape → ℕ → List ℕ → ℕ → Type 0
Leads S v d r = far v d (S.target r) + 1 ≡ get_or d (S.source r) 0

-- r is a rule from u that comes one nearer, and not above rule i
pub record Chosen (S : Shape) (v : ℕ) (d : List ℕ) (u i r : ℕ) : Type 0 where
  pub is_rule : r < S.rules
  pub from : S.source r ≡ u
  pub leads : Leads S v d r
  pub not_above : r ≤ i

-- next holds at the source of each such rule, from rule j on, the lowest of them, and else 0
pub record Ways (S : Shape) (v : ℕ) (d : List ℕ) (j : ℕ) (next : List ℕ) : Type 0 where
  pub room : length next ≡ 256
  pub below : 0 < S.rules → (x : ℕ) → get_or next x 0 < S.rules
  pub chosen : (i : ℕ) → j ≤ i → i < S.rules → Leads S v d i → Chosen S v d (S.source i) i (get_or next (S.source i) 0)

module _ (S : Shape) (v : ℕ) (d : List ℕ) where
  low_none : (k x b : ℕ) → 0 < b → get_or (replicate k 0) x 0 < b
  low_none zero x b l = l
  low_none (suc k) zero b l = l
  low_none (suc k) (suc x) b l = low_none k x b l

  pub ways_none : Ways S v d (S.rules) (replicate 256 0)
  ways_none = record { room = refl; below = λ l x. low_none 256 x (S.rules) l; chosen = λ i a b. absurd (omega arith) }

  module _ (j : ℕ) (next : List ℕ) (h : Ways S v d (suc j) next) (is_rule : j < S.rules) where
    ways_skip : ¬ (Leads S v d j) → Ways S v d j next
    ways_skip n =
        record { room = h.room; below = h.below; chosen = λ i a b l. by_cases (ℕ_discrete i j) (λ e. absurd (n (rw e at l))) (λ m. h.chosen i (omega arith) b l) }

    module _ (from : S.source j < 256) (leads : Leads S v d j) where
      now_is : get_or (set next (S.source j) j) (S.source j) 0 ≡ j
      now_is = get_or-set_same next (S.source j) j 0 (omega (arith, h.room))

      ways_set : Ways S v d j (set next (S.source j) j)
      ways_set =
          record {
            room = simp length-set h.room;
            below = λ l x. by_cases (ℕ_discrete x (S.source j)) (λ e. rw (e, now_is) is_rule) (λ n. rw (get_or-set_other next (S.source j) x j 0 n) (h.below l x));
            chosen = chosen;
          }
        where
          chosen : (i : ℕ) → j ≤ i → i < S.rules → Leads S v d i → Chosen S v d (S.source i) i (get_or (set next (S.source j) j) (S.source i) 0)
          chosen i a b l =
              by_cases (ℕ_discrete (S.source i) (S.source j))
              (λ e. rw (e, now_is) (record { is_rule = is_rule; from = refl; leads = leads; not_above = a }))
              (λ n. rw (get_or-set_other next (S.source j) (S.source i) j 0 n) (h.chosen i (later i a n) b l))
            where
              later : (i : ℕ) → j ≤ i → S.source i ≢ S.source j → suc j ≤ i
              later i a n = by_cases (ℕ_discrete i j) (λ e. absurd (n (ap (S.source) e))) (λ m. omega arith)

  -- one turn of the loop, which goes down: rule j is the last of those not looked at
  module _ (j s t : ℕ) (next : List ℕ) (h : Ways S v d (j + 1) next) (is_rule : j < S.rules) (es : s ≡ S.source j) (et : t ≡ S.target j) where
    pub ways_passed : ¬ (far v d t + 1 ≡ get_or d s 0) → Ways S v d j next
    ways_passed n = ways_skip j next (rw add-one at h) is_rule (rw (es, et) at n)

    pub ways_led : s < 256 → far v d t + 1 ≡ get_or d s 0 → Ways S v d j (set next s j)
    ways_led b l = rw es (ways_set j next (rw add-one at h) is_rule (rw es at b) (rw (es, et) at l))

-- the k rules met from u on
unfoldable pub followed : List ℕ → List ℕ → ℕ → ℕ → List ℕ
followed target next u zero = []
followed target next u (suc k) = get_or next u 0 ∷ followed target next (get_or target (get_or next u 0) 0) k

-- every step along next stays inside the arrays
abbrev pub Steps : List ℕ → List ℕ → Type 0
Steps target next = (u : ℕ) → u < 256 → (get_or next u 0 < 2048) × (get_or target (get_or next u 0) 0 < 256)

module _ (source target : List ℕ) (len v : ℕ) (d next : List ℕ) (within : Within source target len) (near : Near (plain source target len) v d)
    (settled : Settled (plain source target len) v d) (ways : Ways (plain source target len) v d 0 next) where
  -- a rule that begins a shortest walk comes one nearer
  shortest_leads : (u k q : ℕ) (qs : List ℕ) → get_or d u 0 ≡ suc k → length qs ≡ k → Walk (plain source target len) u v (q ∷ qs) → Leads (plain source target len) v d q
  shortest_leads u k q [] e l h =
      omega (arith, e, l, ap (λ x. get_or d x 0) h.1, away_home v (get_or target q 0) (get_or d (get_or target q 0) 0) h.2)
  shortest_leads u k q (p ∷ ps) e l h =
      omega (
        arith,
        e,
        l,
        ap (λ x. get_or d x 0) h.1,
        settled q h.0,
        away_most v (get_or target q 0) (get_or d (get_or target q 0) 0),
        near_least (plain source target len) v d settled (get_or target q 0) (p ∷ ps) (omega arith) h.2,
      )

  chosen_of : (u k q : ℕ) (qs : List ℕ) → get_or d u 0 ≡ suc k → length qs ≡ k → Walk (plain source target len) u v (q ∷ qs) → Chosen (plain source target len) v d u q (get_or next u 0)
  chosen_of u k q qs e l h =
      subst (λ x. Chosen (plain source target len) v d x q (get_or next x 0)) h.1 (ways.chosen q (omega arith) h.0 (shortest_leads u k q qs e l h))

  chosen_on : (u k : ℕ) → get_or d u 0 ≡ suc k → Way (plain source target len) v u (get_or d u 0) → (q : ℕ) × Chosen (plain source target len) v d u q (get_or next u 0)
  chosen_on u k e w = on w.walk (w.size ∙ e) w.walks
    where
      on : (rs : List ℕ) → length rs ≡ suc k → Walk (plain source target len) u v rs → (q : ℕ) × Chosen (plain source target len) v d u q (get_or next u 0)
      on [] l h = absurd (omega arith)
      on (q ∷ qs) l h = (q, chosen_of u k q qs e (omega arith) h)

  -- one rule, and the first walk of k rules from its target
  followed_step : (k u : ℕ) → u < 256 → suc k < 512 → get_or d u 0 ≡ suc k
      → ((t : ℕ) → t < 256 → get_or d t 0 ≡ k → 0 < k → FirstWalk (plain source target len) v k t (followed target next t k))
      → FirstWalk (plain source target len) v (suc k) u (followed target next u (suc k))
  unfolding followed
  followed_step k u b low e ih =
      walk_first (plain source target len) v k u (get_or next u 0) (followed target next t k) c.is_rule c.from rest (λ q qs l h. (chosen_of u k q qs e l h).not_above)
    where
      t : ℕ
      t = get_or target (get_or next u 0) 0

      c : Chosen (plain source target len) v d u (chosen_on u k e (near.attained u b (omega arith))).0 (get_or next u 0)
      c = (chosen_on u k e (near.attained u b (omega arith))).1

      there : far v d t ≡ k
      there = omega (arith, e, c.leads, ap (λ x. get_or d x 0) c.from)

      home : t ≡ v → k ≡ 0 → FirstWalk (plain source target len) v k t (followed target next t k)
      home s z = rw z (record { size = refl; walks = s; first = λ qs l h. tt })

      rest : FirstWalk (plain source target len) v k t (followed target next t k)
      rest =
          by_cases (ℕ_discrete t v)
          (λ s. home s (omega (arith, there, away_home v t (get_or d t 0) s)))
          (λ n.
          let same : get_or d t 0 ≡ k = omega (arith, there, away_other v t (get_or d t 0) n) in
          let inside = within.to_below (get_or next u 0) c.is_rule in
          ih t inside same (omega (arith, same, (near.attained t inside (omega (arith, same))).some_rule)))

  -- THE RULES FOLLOWED ARE THE FIRST SHORTEST WALK
  pub followed_first : (k u : ℕ) → u < 256 → suc k < 512 → get_or d u 0 ≡ suc k → FirstWalk (plain source target len) v (suc k) u (followed target next u (suc k))
  followed_first zero u b low e = followed_step 0 u b low e (λ t i s l. absurd (omega arith))
  followed_first (suc k) u b low e = followed_step (suc k) u b low e (λ t i s l. followed_first k t i (omega arith) s)
