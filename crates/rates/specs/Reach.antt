-- The rules whose targets reach v, gathered by the distances to it.
--
--   limits_plain              the limits, whatever the offsets
--   Near target v dist r      == the target of rule r is v, or has a distance below 512 to it
--   Counts t v d k            == k is 1 where a rule into t is one of them, else 0
--   Filled column list len xs == xs has room for all rules, and its first len places hold the column's entries for the rules of the list
--   Taken .. i .. len         == the columns hold, in their first len places, those of the first i rules that are near
--   taken_none, taken_next    the loop that gathers them
--   sought_columns            the distances over the arcs that columns lend are those over their rules
--   reaches, reaches_not      the transitions with a distance, and v, reach v; no other does
--   gathers, gathers_as_they_are   so they are the rules whose targets reach v; where every transition reaches v, all are
use Rattle.std.specs.Prelude.{◌≡◌, refl, ◌⊎◌, ◌≢◌, List, [], ◌∷◌, ℕ, suc, ◌+◌, ◌≤◌, ◌<◌, length, get_or, set, replicate}
use Rattle.std.proofs.Common.{sym, ap, ◌∙◌, subst, inl, inr, ⊎_elim, arith, length-set, get_or-set_same, get_or-set_other}
use Rattle.std.proofs.Math.Logic.{by_cases}
use Rattle.std.proofs.Math.Decide.{ℕ_discrete, dec_lt}
use Rattle.std.proofs.lemmas.List.{length-replicate}
use Rattle.model.specs.Walk.{Walk}
use Rattle.model.specs.Rate.{Reaches}
use Rattle.theory.specs.Walk.{path_short, LoopAbove, Shortened, shorten}
use Rattle.theory.specs.Rate.{reach_here}
use Rattle.theory.specs.Gather.{Reaching, Gathers, gathers_all}
use Rattle.columns.specs.Columns.{shape, Limits}
use Rattle.columns.specs.declared.Columns.{Columns}
use Rattle.columns.specs.declared.rules.Arcs.{Arcs}
use Rattle.columns.specs.declared.rules.Rules.{Rules}
use Rattle.columns.specs.Views.{of_arcs}
use Rattle.peel.specs.Plain.{plain}
use Rattle.loops.specs.Listed.{Listed, listed_none, listed_skip, listed_add, Gathered}
use Rattle.distances.specs.Near.{near_least}
use Rattle.distances.specs.Queue.{Sought}

pub limits_plain : (source target offset : List ℕ) (m n : ℕ) → Limits source target offset m n → Limits source target [] m n
limits_plain source target offset m n l =
    record { few_rules = l.few_rules; some_transition = l.some_transition; few_transitions = l.few_transitions; fits = l.fits; small_offsets = λ r b. omega arith }

abbrev pub Near : List ℕ → ℕ → List ℕ → ℕ → Type 0
Near target v dist r = (get_or target r 0 ≡ v) ⊎ (get_or dist (get_or target r 0) 0 < 512)

abbrev pub Counts : ℕ → ℕ → ℕ → ℕ → Type 0
Counts t v d k = (((t ≡ v) ⊎ (d < 512)) × (k ≡ 1)) ⊎ ((t ≢ v) × (512 ≤ d) × (k ≡ 0))

-- ------------------------------------------------------------------------------------------------------------------------------ the loop that gathers

abbrev pub Filled : List ℕ → List ℕ → ℕ → List ℕ → Type 0
Filled column list len xs = (length xs ≡ 2048) × Gathered column list len xs

filled_past : (column list xs : List ℕ) (len x : ℕ) → Filled column list len xs → Filled column list len (set xs len x)
filled_past column list xs len x h = (simp length-set h.0, λ j l. get_or-set_other xs len j x 0 (λ e. omega arith) ∙ h.1 j l)

filled_next : (column list xs : List ℕ) (len i : ℕ) → Filled column list len xs → length list ≡ 2048 → len < 2048
    → Filled column (set list len i) (len + 1) (set xs len (get_or column i 0))
filled_next column list xs len i h room b = (
  simp length-set h.0,
  λ j l. by_cases (ℕ_discrete j len)
      (λ e. rw (e, get_or-set_same xs len (get_or column i 0) 0 (omega (arith, h.0)), get_or-set_same list len i 0 (omega arith)) refl)
      (λ d. rw (get_or-set_other xs len j (get_or column i 0) 0 d, get_or-set_other list len j i 0 d) (h.1 j (omega arith))),
)

pub record Taken (source target offset least greatest : List ℕ) (v : ℕ) (dist : List ℕ) (i : ℕ) (from to off low high : List ℕ) (len : ℕ) : Type 0 where
  pub list : List ℕ
  pub room : length list ≡ 2048
  pub listed : Listed (Near target v dist) list len i
  pub sources : Filled source list len from
  pub targets : Filled target list len to
  pub offsets : Filled offset list len off
  pub leasts : Filled least list len low
  pub greatests : Filled greatest list len high

module _ (source target offset least greatest : List ℕ) (v : ℕ) (dist : List ℕ) where
  nothing : (column : List ℕ) → Filled column (replicate 2048 0) 0 (replicate 2048 0)
  nothing column = (length-replicate {A = ℕ} 2048 0, λ j l. absurd (omega arith))

  pub taken_none : Taken source target offset least greatest v dist 0 (replicate 2048 0) (replicate 2048 0) (replicate 2048 0) (replicate 2048 0) (replicate 2048 0) 0
  taken_none =
      record {
        list = replicate 2048 0;
        room = length-replicate {A = ℕ} 2048 0;
        listed = listed_none (Near target v dist) (replicate 2048 0);
        sources = nothing source;
        targets = nothing target;
        offsets = nothing offset;
        leasts = nothing least;
        greatests = nothing greatest;
      }

  -- rule i is written at the end of each column, and counts or not
  module _ (i : ℕ) (from to off low high : List ℕ) (len : ℕ) (h : Taken source target offset least greatest v dist i from to off low high len) (below : i < 2048) where
    near_by : (t : ℕ) → t ≡ get_or target i 0 → ((t ≡ v) ⊎ (get_or dist t 0 < 512)) → Near target v dist i
    near_by t e n = rw e at n

    taken_near : Near target v dist i
        → Taken source target offset least greatest v dist (i + 1) (set from len (get_or source i 0)) (set to len (get_or target i 0)) (set off len (get_or offset i 0)) (set low len (get_or least i 0)) (set high len (get_or greatest i 0)) (len + 1)
    taken_near n =
        let b : len < 2048 = omega (arith, h.listed.few) in
        record {
          list = set h.list len i;
          room = simp length-set h.room;
          listed = listed_add (Near target v dist) h.list len i h.listed n (omega (arith, h.room));
          sources = filled_next source h.list from len i h.sources h.room b;
          targets = filled_next target h.list to len i h.targets h.room b;
          offsets = filled_next offset h.list off len i h.offsets h.room b;
          leasts = filled_next least h.list low len i h.leasts h.room b;
          greatests = filled_next greatest h.list high len i h.greatests h.room b;
        }

    taken_far : ¬ (Near target v dist i)
        → Taken source target offset least greatest v dist (i + 1) (set from len (get_or source i 0)) (set to len (get_or target i 0)) (set off len (get_or offset i 0)) (set low len (get_or least i 0)) (set high len (get_or greatest i 0)) len
    taken_far n =
        record {
          list = h.list;
          room = h.room;
          listed = listed_skip (Near target v dist) h.list len i h.listed n;
          sources = filled_past source h.list from len _ h.sources;
          targets = filled_past target h.list to len _ h.targets;
          offsets = filled_past offset h.list off len _ h.offsets;
          leasts = filled_past least h.list low len _ h.leasts;
          greatests = filled_past greatest h.list high len _ h.greatests;
        }

    pub taken_next : (t k : ℕ) → t ≡ get_or target i 0 → Counts t v (get_or dist t 0) k
        → Taken source target offset least greatest v dist (i + 1) (set from len (get_or source i 0)) (set to len (get_or target i 0)) (set off len (get_or offset i 0)) (set low len (get_or least i 0)) (set high len (get_or greatest i 0)) (len + k)
    taken_next t k e (inl c) = rw c.1 (taken_near (near_by t e c.0))
    taken_next t k e (inr c) =
        let z : len + k ≡ len = omega (arith, c.2) in
        rw z (taken_far (⊎_elim (λ a. c.0 (e ∙ a)) (λ a. omega (arith, c.1, a, ap (λ y. get_or dist y 0) e))))

-- the distances over the arcs of columns are those over their rules
pub sought_columns : (c : Columns) (r : Rules) (a : Arcs) → (r.source.now ≡ c.source) × (r.target.now ≡ c.target) × (r.offset.now ≡ c.offset) → (r.m ≡ c.m) × (r.n ≡ c.n)
    → (a.source ≡ r.source) × (a.target ≡ r.target) × (a.m ≡ r.m) × (a.n ≡ r.n) → (v : ℕ) (dist : List ℕ) (k : ℕ)
    → Sought (of_arcs a) a.n v dist k → Sought (plain c.source c.target c.m) c.n v dist k
sought_columns c r a e z f v dist k h = rw (f.0, f.1, f.2, f.3, e.0, e.1, z.0, z.1) at h

-- walks do not depend on offsets
walk_offsets : (source target o o' : List ℕ) (m u w : ℕ) (rs : List ℕ) → Walk (shape source target o m) u w rs → Walk (shape source target o' m) u w rs
walk_offsets source target o o' m u w [] h = h
walk_offsets source target o o' m u w (r ∷ rs) h = (h.0, h.1, walk_offsets source target o o' m (get_or target r 0) w rs h.2)

module _ (source target : List ℕ) (m n v : ℕ) (limits : Limits source target [] m n) (dist : List ℕ) (k : ℕ) (far : Sought (plain source target m) n v dist k) (offset : List ℕ) where
  reaches : (t : ℕ) → t < n → get_or dist t 0 < 512 → Reaches (shape source target offset m) t v
  reaches t b l =
      let w = far.near.attained t (omega (arith, limits.few_transitions)) l in
      record { way = w.walk; leads = walk_offsets source target [] offset m t v w.walk w.walks }

  -- a path to v has fewer than n rules, and the distance would be no more
  reaches_not : (t : ℕ) → t < n → t ≢ v → 512 ≤ get_or dist t 0 → ¬ (Reaches (shape source target offset m) t v)
  reaches_not t b d l x =
      let S = shape source target offset m in
      let s : Shortened S (λ r. 0) 0 0 t v x.way = ⊎_elim (λ (a : LoopAbove S (λ r. 0) 0 0). absurd (omega (arith, a.above))) (λ p. p) (shorten S (λ r. 0) 0 0 (suc (length x.way)) t v x.way (omega arith) x.leads) in
      none s.path s.walks (path_short S n limits.fits t v s.path b s.walks s.distinct)
    where
      none : (rs : List ℕ) → Walk (shape source target offset m) t v rs → length rs < n → ⊥
      none [] e c = d e
      none (r ∷ rs) w c = omega (arith, near_least (shape source target offset m) v dist far.settled t (r ∷ rs) (omega arith) w, limits.few_transitions)

  near_reaches : (r : ℕ) → r < m → Near target v dist r → Reaching (shape source target offset m) v r
  near_reaches r b =
      ⊎_elim
      (λ e. subst (λ t. Reaches (shape source target offset m) t v) (sym e) (reach_here (shape source target offset m) v))
      (reaches (get_or target r 0) (limits.fits r b).1)

  reaches_near : (r : ℕ) → r < m → Reaching (shape source target offset m) v r → Near target v dist r
  reaches_near r b x =
      by_cases (ℕ_discrete (get_or target r 0) v) inl
      (λ d. by_cases (dec_lt (get_or dist (get_or target r 0) 0) 512) inr (λ h. absurd (reaches_not (get_or target r 0) (limits.fits r b).1 d (omega arith) x)))

  -- THE GATHERED RULES ARE THOSE WHOSE TARGETS REACH v
  module _ (least greatest from to off low high : List ℕ) (len : ℕ) (h : Taken source target offset least greatest v dist m from to off low high len) where
    pub gathers : Gathers (shape source target offset m) (shape from to off len) v (λ j. get_or h.list j 0)
    gathers =
        record {
          picks = record {
            is_rule = h.listed.below;
            kind = λ j b. near_reaches (get_or h.list j 0) (h.listed.below j b) (h.listed.kind j b);
            source_is = h.sources.1;
            target_is = h.targets.1;
            ascending = h.listed.ascending;
            all = λ r b x. h.listed.all r b (reaches_near r b x);
          };
          offset_is = h.offsets.1;
        }

  -- all are where every transition reaches v
  pub gathers_as_they_are : n ≤ k → Gathers (shape source target offset m) (shape source target offset m) v (λ r. r)
  gathers_as_they_are all = gathers_all (shape source target offset m) v (λ r b. let l = (limits.fits r b).1 in reaches (get_or target r 0) l (far.all all (get_or target r 0) l))
