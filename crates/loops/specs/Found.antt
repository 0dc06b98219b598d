-- What the search for the first loop of a kind promises.
--
--   FoundFirst S A n len at rules   == the first loop of the kind A, read from transition at, is the first len rules; len is 0 where there is none
--   numbers list js                 == the numbers of the rules at the places js of the list
--   Routed                          == the rules written so far, and those still to be followed, are the whole walk
--   route_step, route_ends          the loop that writes them
--   Looped, FoundIn T list n len at rules   == the same of the listed rules alone, each written by its number in the list
--   NoneBelow T v                   == no loop starts below v
--   none_struck, none_far           nor at v, where v was struck or no walk comes back to it
--   Ready, ready, ready_named       == what is asked before a walk is followed, and that it holds; each rule of it stands in the list
--   found_here, found_none          a loop was found; none was
--   FoundListed, found_listed       the same of a list, whose columns are gathered for it: the first loop of that kind
--   found_kind                      the first loop of the listed rules is the first of their kind
use Rattle.std.specs.Prelude.{◌≡◌, refl, ◌≢◌, length, get_or, set}
use Rattle.std.proofs.Common.{sym, ◌∙◌, add-one}
use Rattle.std.proofs.Math.Path.{subst}
use Rattle.std.proofs.Math.Logic.{by_cases}
use mathlib.Core.List.{List, [], ◌∷◌, ◌++◌, map, append_assoc, append-nil}
use Prim.Native.Nat.{ℕ, zero, suc, ◌+◌, ◌-◌, ◌≤◌, ◌<◌}
use native.Mathlib.Omega.{arith}
use Rattle.std.proofs.Math.Decide.{ℕ_discrete}
use Rattle.std.proofs.Math.ListN.{take}
use Rattle.std.proofs.Math.Seq.{take-suc-set}
use Rattle.model.specs.Shape.{Shape, Fits}
use Rattle.model.specs.Loop.{Loop}
use Rattle.model.specs.Walk.{Walk}
use Rattle.theory.specs.Loop.{loop_short, loop_start}
use Rattle.theory.specs.First.{KindLoop, FirstLoop}
use Rattle.theory.specs.Near.{Any, picked_none, picked_first, closed_first}
use Rattle.columns.specs.Columns.{shape, Limits}
use Rattle.peel.specs.Plain.{plain}
use Rattle.peel.specs.Peel.{Stays, loop_remnant}
use Rattle.peel.specs.Peeling.{Peeled, peeled_none}
use Rattle.loops.specs.Listed.{Listed, Gathered, picks, limits_within}
use Rattle.distances.specs.Near.{Near, Settled, near_least, near_short}
use Rattle.loops.specs.Ways.{Ways, followed, followed_first, Steps}

-- the first loop of the kind A has len rules, those that stand first, and is read from at; there is none where len is 0
pub record FoundFirst (S : Shape) (A : ℕ → Type 0) (n len at : ℕ) (rules : List ℕ) : Type 0 where
  pub short : len ≤ n
  pub at_below : at < n
  pub none : len ≡ 0 → (u : ℕ) (rs : List ℕ) → ¬ (KindLoop S A u rs)
  pub some : 0 < len → FirstLoop S A at (take len rules)

-- the numbers of the rules at some places of the list
abbrev pub numbers : List ℕ → List ℕ → List ℕ
numbers list js = map (λ j. get_or list j 0) js

-- the rules written so far and those still to be followed are the whole walk
abbrev pub Routed : List ℕ → List ℕ → List ℕ → ℕ → ℕ → ℕ → ℕ → List ℕ → Type 0
Routed target list next v k i u rules = take i rules ++ numbers list (followed target next u (k - i)) ≡ numbers list (followed target next v k)

module _ (target list next : List ℕ) (v k : ℕ) where
  pub route_step : (i u : ℕ) (rules : List ℕ) (j x w : ℕ) → Routed target list next v k i u rules → i < k → i < length rules → j ≡ get_or next u 0 → x ≡ get_or list j 0 → w ≡ get_or target j 0
      → Routed target list next v k (i + 1) w (set rules i x)
  unfolding followed
  route_step i u rules j x w h l room ej ex ew =
      let left : k - i ≡ suc (k - suc i) = omega arith in
      let now : take i rules ++ numbers list (followed target next u (suc (k - suc i))) ≡ numbers list (followed target next v k) = rw left at h in
      let front : take (suc i) (set rules i x) ≡ take i rules ++ (x ∷ []) = take-suc-set rules i x room in
      rw (add-one, front, append_assoc, ew, ex, ej) now

  pub route_ends : (i u : ℕ) (rules : List ℕ) → Routed target list next v k i u rules → i ≡ k → take k rules ≡ numbers list (followed target next v k)
  unfolding followed
  route_ends i u rules h e =
      let left : k - i ≡ 0 = omega arith in
      let now : take i rules ++ [] ≡ numbers list (followed target next v k) = rw left at h in
      subst (λ x. take x rules ≡ numbers list (followed target next v k)) e (sym (append-nil (take i rules)) ∙ now)

-- the places of the first loop's rules in the list
pub record Looped (T : Shape) (list : List ℕ) (len at : ℕ) (rules : List ℕ) : Type 0 where
  pub places : List ℕ
  pub first : FirstLoop T Any at places
  pub names : take len rules ≡ numbers list places

-- the same of the listed rules alone
pub record FoundIn (T : Shape) (list : List ℕ) (n len at : ℕ) (rules : List ℕ) : Type 0 where
  pub short : len ≤ n
  pub at_below : at < n
  pub none : len ≡ 0 → (u : ℕ) (js : List ℕ) → ¬ (Loop T u js)
  pub some : 0 < len → Looped T list len at rules

-- no loop starts at a transition below v
abbrev pub NoneBelow : Shape → ℕ → Type 0
NoneBelow T v = (w : ℕ) (js : List ℕ) → w < v → ¬ (Loop T w js)

module _ (T : Shape) (v : ℕ) (below : NoneBelow T v) where
  none_here : ((js : List ℕ) → ¬ (Loop T v js)) → NoneBelow T (v + 1)
  none_here here w js l = by_cases (ℕ_discrete w v) (λ e. rw e (here js)) (λ d. below w js (omega arith))

  -- a struck transition is on no loop
  pub none_struck : (alive : List ℕ) → Stays T alive → get_or alive v 0 ≢ 1 → NoneBelow T (v + 1)
  none_struck alive stays n = none_here (λ js l. n (stays v (record { walk = js; some_rule = l.some_rule; closed = l.closed })))

  -- nor is one from which no walk comes back
  pub none_far : (n : ℕ) (d : List ℕ) → Fits T n → n ≤ 256 → Settled T v d → 512 ≤ get_or d v 0 → NoneBelow T (v + 1)
  none_far n d fits few settled far = none_here (λ js l. omega (arith, loop_short T n fits v js l, near_least T v d settled v js l.some_rule l.closed))

-- what the code asks before it follows a walk of k rules from v
pub record Ready (target next : List ℕ) (v k : ℕ) : Type 0 where
  pub start : v < 256
  pub short : k ≤ 256
  pub steps : Steps target next

module _ (source target : List ℕ) (len n v : ℕ) (d next : List ℕ) (limits : Limits source target [] len n) (below : v < n)
    (near : Near (plain source target len) v d) (settled : Settled (plain source target len) v d) (ways : Ways (plain source target len) v d 0 next) (found : get_or d v 0 < 512) where
  inside : v < 256
  inside = omega (arith, limits.few_transitions)

  short : get_or d v 0 ≤ n
  short = near_short (plain source target len) n v d limits.fits near settled inside found

  some_rules : 0 < len
  some_rules = let w = near.attained v inside found in first w.walk (omega (arith, w.size, w.some_rule)) w.walks
    where
      first : (rs : List ℕ) → 0 < length rs → Walk (plain source target len) v v rs → 0 < len
      first [] l h = absurd (omega arith)
      first (r ∷ rs) l h = omega (arith, h.0)

  pub ready : Ready target next v (get_or d v 0)
  ready =
      record {
        start = inside;
        short = omega (arith, short, limits.few_transitions);
        steps = λ u b. let r = ways.below some_rules u in (omega (arith, r, limits.few_rules), omega (arith, limits.fits (get_or next u 0) r, limits.few_transitions));
      }

  pub ready_named : (u : ℕ) → get_or next u 0 < len
  ready_named = ways.below some_rules

  pub found_here : (list rules : List ℕ) → NoneBelow (plain source target len) v → take (get_or d v 0) rules ≡ numbers list (followed target next v (get_or d v 0))
      → FoundIn (plain source target len) list n (get_or d v 0) v rules
  found_here list rules none names =
      let w = near.attained v inside found in
      record { short = short; at_below = below; none = λ e. absurd (omega (arith, w.some_rule)); some = λ l. looped (get_or d v 0) refl names }
    where
      looped : (k : ℕ) → get_or d v 0 ≡ k → take k rules ≡ numbers list (followed target next v k) → Looped (plain source target len) list k v rules
      looped zero e h = absurd (omega (arith, (near.attained v inside found).some_rule))
      looped (suc k) e h =
          record {
            places = followed target next v (suc k);
            first = closed_first (plain source target len) n limits.fits v k (followed target next v (suc k)) (λ qs some q. omega (arith, e, near_least (plain source target len) v d settled v qs some q))
                (followed_first source target len v d next (limits_within source target len n limits) near settled ways k v inside (omega arith) e) none;
            names = h;
          }

pub found_none : (source target list : List ℕ) (len n v : ℕ) (rules : List ℕ) → Limits source target [] len n → NoneBelow (plain source target len) v → n ≤ v
    → FoundIn (plain source target len) list n 0 0 rules
found_none source target list len n v rules limits below l =
    record {
      short = omega arith;
      at_below = limits.some_transition;
      none = λ e u js h. below u js (omega (arith, loop_start (plain source target len) n limits.fits u js h)) h;
      some = λ z. absurd (omega arith);
    }

-- nothing remains: there is no loop
pub found_peeled : (source target list : List ℕ) (len n : ℕ) (alive : List ℕ) (k : ℕ) (rules : List ℕ) → Limits source target [] len n
    → Peeled (plain source target len) n alive k → n ≤ k → FoundIn (plain source target len) list n 0 0 rules
found_peeled source target list len n alive k rules limits p l =
    record {
      short = omega arith;
      at_below = limits.some_transition;
      none = λ e u js h.
          let v = loop_start (plain source target len) n limits.fits u js h in
          peeled_none (plain source target len) n alive k p l u v (loop_remnant (plain source target len) n limits.fits limits.few_transitions alive p.remnant u js h);
      some = λ z. absurd (omega arith);
    }

-- the first loop of the listed rules is the first of their kind
pub found_kind : (source target offset list from to : List ℕ) (m size : ℕ) → Gathered source list size from → Gathered target list size to → (A : ℕ → Type 0) → Listed A list size m
    → (n len at : ℕ) (rules : List ℕ) → FoundIn (plain from to size) list n len at rules → FoundFirst (shape source target offset m) A n len at rules
found_kind source target offset list from to m size gf gt A h n len at rules f =
    let S = shape source target offset m in
    let T = plain from to size in
    let p = picks source target offset list from to m size gf gt A h in
    record {
      short = f.short;
      at_below = f.at_below;
      none = λ e. picked_none A S T (λ j. get_or list j 0) p (f.none e);
      some = λ l. let g = f.some l in rw g.names (picked_first A S T (λ j. get_or list j 0) p at g.places g.first);
    }

-- the first loop of the rules of a list, whose columns were gathered for it
pub record FoundListed (source target list : List ℕ) (n len at : ℕ) (rules : List ℕ) : Type 0 where
  pub from : List ℕ
  pub to : List ℕ
  pub from_is : Gathered source list (length list) from
  pub to_is : Gathered target list (length list) to
  pub found : FoundIn (plain from to (length list)) list n len at rules

pub found_listed : (source target offset list : List ℕ) (m n len at : ℕ) (rules : List ℕ) (A : ℕ → Type 0) → Listed A list (length list) m → FoundListed source target list n len at rules
    → FoundFirst (shape source target offset m) A n len at rules
found_listed source target offset list m n len at rules A h f =
    found_kind source target offset list f.from f.to m (length list) f.from_is f.to_is A h n len at rules f.found
