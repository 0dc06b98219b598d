-- What the steps of the climb ask for and promise, and the laws that carry its loops. S is the shape, D the delays.
--
--   rise                            == the most by which a value rises in a pass
--   Asks i s t g h x                == rule i, from s to t, which adds g and whose offset takes h away, may ask: no sum wraps
--   Risen i s t g h x₀ par₀ x par f == it raised t (f), or asked for no more than t had
--   Query S D n P Q                 == rules within the limits, and a ratio that a closed walk can have
--   Ready S D P Q x par             == a query, with the values and parents after some passes: what a pass asks for
--   Ended S D P Q x₀ par₀ x par f   == what a pass promises: it raised something (f) or nothing
--   Carried S D P Q x₀ par₀ x par   == what a pass in another order promises, which need not come to every rule
--   Going S D P Q x₀ par₀ x par Done j  == a pass that began at x₀ and par₀: j rules have asked, and those that are Done
--   Told S x₀ x f                   == from x₀ to x something rose (f) or nothing
--   Settling S D P Q n x par k      == the search at P/Q, after k passes over all rules and some others
--   Rising S D P Q                  == the climb has come to P/Q
--   Quotient a e p q                == p/q is a/e in lowest terms
--   left P Q                        == the steps of 1/3840² that are left above P/Q
--   going_start, going_asks, going_on, going_skip, going_end, going_carried, told_start, told_raise, told_keep   the loop of a pass
--   settling_zeros, settling_start, settling_ready, settling_carried, settling_scanned, settling_sound, settling_quiet, settling_found, settling_on            the loop of passes
--   least_low                       the least values that keep every rule are low
--   rising_start, rising_query, query_limits, rising_end, walk_loop, walk_turns, rising_walk, rising_less                           the loop of ratios
use Rattle.std.specs.Prelude.{◌≡◌, refl, Bool, true, false, Option, Some, None as Nothing, ◌⊎◌, List, [], ◌∷◌, ℕ, suc, ◌+◌, ◌*◌, ◌-◌, ◌/◌, ◌≤◌, ◌<◌, length, get_or, set, replicate}
use Rattle.std.proofs.Common.{sym, ap, subst, true≢false, inl, inr, ⊎_elim, arith, le_trans, le_of_eq, mul-le-mul, mul-le-mul_left, mul-le-mul_right, lt_of_mul-lt-mul_right, div-le_self, add-one, length-set, get_or-set_same}
use Rattle.std.proofs.lemmas.Bool.{false≢true}
use Rattle.std.proofs.Math.Logic.{by_cases}
use Rattle.std.proofs.Math.Decide.{ℕ_discrete, dec_lt}
use Rattle.std.proofs.lemmas.List.{length-replicate}
use Rattle.std.proofs.Math.ListN.{get_or-eq_default}
use Rattle.model.specs.Shape.{Shape, Fits}
use Rattle.model.specs.Sums.{delays, offsets}
use Rattle.model.specs.Walk.{Walk}
use Rattle.model.specs.Loop.{SomeLoop, Live}
use Rattle.model.specs.Ratio.{Lowest}
use Rattle.model.specs.Schedule.{Keeps, LeastSchedule}
use Rattle.theory.specs.Sums.{delays_most}
use Rattle.theory.specs.Walk.{Shortened, shorten, path_short}
use Rattle.theory.specs.Schedule.{closed_not_above}
use Rattle.theory.specs.Relax.{Below, values, zeros_at, values_attained}
use Rattle.theory.specs.Ratio.{IsGcd, Reduces, gcd_quotients, divides_pos}
use Rattle.theory.specs.Parents.{Parents, Sound, raised_not_grounded}
use Rattle.theory.specs.Raise.{Raised, raised_start, raised_most, Passing, passing_start, passing_raise, passing_leave, passing_skip, passing_carried, passing_end, settled}
use Rattle.theory.specs.Period.{climbs, schedule_above}
use Rattle.theory.specs.Climb.{ClosedWalk, walk_some, closed_turns}
use Rattle.columns.specs.Columns.{shape, delay_at, Limits, Short}
use Rattle.search.specs.Search.{ParentLoop, Scanned, Passed, LowWalk, LeastAt, Higher, Reached}
use Rattle.search.specs.declared.scan.Walk.{Walk as Met}

-- 2,048 rules, each by at most 3,840 times 1,000,000
abbrev pub rise : ℕ
rise = 7864320000000

-- values up to 2^53: three times as many passes as there are transitions stay below that
pub record Asks (i s t g h : ℕ) (x : List ℕ) : Type 0 where
  pub rule_low : i < 2048
  pub source_low : s < 256
  pub target_low : t < 256
  pub more : g ≤ 3840000000
  pub less : h ≤ 3840000000
  pub source_value : get_or x s 0 ≤ 9007199254740992
  pub target_value : get_or x t 0 ≤ 9007199254740992

pub record Risen (i s t g h : ℕ) (x₀ par₀ x par : List ℕ) (f : Bool) : Type 0 where
  pub raised : f ≡ true → (get_or x₀ t 0 + h < get_or x₀ s 0 + g) × (x ≡ set x₀ t (get_or x₀ s 0 + g - h)) × (par ≡ set par₀ t (i + 1))
  pub kept : f ≡ false → (get_or x₀ s 0 + g ≤ get_or x₀ t 0 + h) × (x ≡ x₀) × (par ≡ par₀)

pub record Query (S : Shape) (D : ℕ → ℕ) (n P Q : ℕ) : Type 0 where
  pub few_rules : S.rules ≤ 2048
  pub some_transition : 1 ≤ n
  pub few_transitions : n ≤ 256
  pub fits : Fits S n
  pub small_offsets : (r : ℕ) → r < S.rules → S.offset r ≤ 15
  pub short : (r : ℕ) → r < S.rules → D r ≤ 1000000
  pub p_low : P ≤ 256000000
  pub q_low : Q ≤ 3840

-- no value has risen further than in 768 passes
pub record Ready (S : Shape) (D : ℕ → ℕ) (P Q : ℕ) (x par : List ℕ) : Type 0 where
  pub query : Query S D 256 P Q
  pub x_room : length x ≡ 256
  pub par_room : length par ≡ 256
  pub most : ℕ
  pub passes : ℕ
  pub low : most ≤ 768 * rise
  pub raised : Raised S D P Q most passes x par

pub record Ended (S : Shape) (D : ℕ → ℕ) (P Q : ℕ) (x₀ par₀ x par : List ℕ) (f : Bool) : Type 0 where
  pub x_room : length x ≡ 256
  pub par_room : length par ≡ 256
  pub passed : (c k : ℕ) → Raised S D P Q c k x₀ par₀ → Passed S D P Q (c + rise) k x₀ x par f

pub record Carried (S : Shape) (D : ℕ → ℕ) (P Q : ℕ) (x₀ par₀ x par : List ℕ) : Type 0 where
  pub x_room : length x ≡ 256
  pub par_room : length par ≡ 256
  pub raised : (c k : ℕ) → Raised S D P Q c k x₀ par₀ → Raised S D P Q (c + rise) k x par

pub record Going (S : Shape) (D : ℕ → ℕ) (P Q : ℕ) (x₀ par₀ x par : List ℕ) (Done : ℕ → Type 0) (j : ℕ) : Type 0 where
  pub x_room : length x ≡ 256
  pub par_room : length par ≡ 256
  pub passing : (c k : ℕ) → Raised S D P Q c k x₀ par₀ → Passing S D P Q 1000000 c x₀ x par Done j

pub record Told (S : Shape) (x₀ x : List ℕ) (f : Bool) : Type 0 where
  pub quiet : f ≡ false → x ≡ x₀
  pub busy : f ≡ true → (r : ℕ) × (r < S.rules) × (get_or x₀ (S.target r) 0 < get_or x (S.target r) 0)

pub record Settling (S : Shape) (D : ℕ → ℕ) (P Q n : ℕ) (x par : List ℕ) (k : ℕ) : Type 0 where
  pub few_passes : k < n
  pub x_room : length x ≡ 256
  pub par_room : length par ≡ 256
  pub raised : Raised S D P Q (k * (3 * rise) + rise) k x par

pub record Rising (S : Shape) (D : ℕ → ℕ) (P Q : ℕ) : Type 0 where
  pub p_low : P ≤ 256000000
  pub q_low : Q ≤ 3840
  pub q_pos : 0 < Q
  pub lowest : Lowest P Q
  pub attained : ((P ≡ 0) × (Q ≡ 1)) ⊎ ((a : ℕ) × (e : ℕ) × ClosedWalk S D a e × (Q * a ≡ P * e))

abbrev pub Quotient : ℕ → ℕ → ℕ → ℕ → Type 0
Quotient a e p q = (d : ℕ) × Reduces a e p q d

-- 256,000,000 times 3840², and 1
abbrev pub left : ℕ → ℕ → ℕ
left P Q = 3774873600000001 - P * (3840 * 3840) / Q

-- a flag is one or the other
pub either : (f : Bool) → (f ≡ true) ⊎ (f ≡ false)
either true = inl refl
either false = inr refl

-- a pass -----------------------------------------------------------------------------------------------------------------------------------
-- the rules before number i, and none: those that are done before rule i of a pass in the file's order, and in a pass in another order
abbrev pub Before : ℕ → ℕ → Type 0
Before i r = r < i

abbrev pub None : ℕ → Type 0
None r = ⊥

pub before_next : (i r : ℕ) → Before (i + 1) r → (r ≡ i) ⊎ Before i r
before_next i r b = by_cases (ℕ_discrete r i) inl (λ d. inr (omega arith))

pub told_start : {S : Shape} {x : List ℕ} → Told S x x false
told_start = record { quiet = λ e. refl; busy = λ e. absurd (false≢true e) }

module _ {S : Shape} {D : ℕ → ℕ} {P Q : ℕ} {x₀ par₀ : List ℕ} (ready : Ready S D P Q x₀ par₀) where
  pub going_start : (Done : ℕ → Type 0) → ((r : ℕ) → ¬ (Done r)) → Going S D P Q x₀ par₀ x₀ par₀ Done 0
  going_start Done none =
      record { x_room = ready.x_room; par_room = ready.par_room; passing = λ c k h. passing_start S D P Q 1000000 c k x₀ par₀ Done none h }

  -- j rules add at most j times 3,840 times 1,000,000
  added : (j : ℕ) → j ≤ 2048 → j * (Q * 1000000) ≤ rise
  added j b = omega (arith, mul-le-mul {n₁ = j} {m₁ = Q * 1000000} {n₂ = 2048} {m₂ = 3840000000} b (omega (arith, ready.query.q_low)))

  module _ {x par : List ℕ} {Done : ℕ → Type 0} {i j : ℕ} (is_rule : i < S.rules) (few : j ≤ 2048) (h : Going S D P Q x₀ par₀ x par Done j) where
    so_far : Passing S D P Q 1000000 ready.most x₀ x par Done j
    so_far = h.passing ready.most ready.passes ready.raised

    low : (v : ℕ) → get_or x v 0 ≤ 9007199254740992
    low v = omega (arith, so_far.most v, ready.low, added j few)

    pub going_asks : Asks i (S.source i) (S.target i) (Q * D i) (P * S.offset i) x
    going_asks =
        record {
          rule_low = omega (arith, ready.query.few_rules);
          source_low = (ready.query.fits i is_rule).0;
          target_low = (ready.query.fits i is_rule).1;
          more = omega (arith, mul-le-mul ready.query.q_low (ready.query.short i is_rule));
          less = omega (arith, mul-le-mul ready.query.p_low (ready.query.small_offsets i is_rule));
          source_value = low (S.source i);
          target_value = low (S.target i);
        }

    -- rule i asks, and did (g) or did not raise its target
    module _ {x' par' : List ℕ} {g : Bool} (risen : Risen i (S.source i) (S.target i) (Q * D i) (P * S.offset i) x par x' par' g) where
      in_x : S.target i < length x
      in_x = omega (arith, h.x_room, ready.query.fits i is_rule)

      in_par : S.target i < length par
      in_par = omega (arith, h.par_room, ready.query.fits i is_rule)

      going_raise : {Done' : ℕ → Type 0} → ((r : ℕ) → Done' r → (r ≡ i) ⊎ Done r) → g ≡ true → Going S D P Q x₀ par₀ x' par' Done' (j + 1)
      going_raise {Done'} which e =
          let (l, ex, ep) = risen.raised e in
          rw (ex, ep, add-one i, add-one j)
          (record {
            x_room = simp length-set h.x_room;
            par_room = simp length-set h.par_room;
            passing = λ c k r. passing_raise S D P Q 1000000 c x₀ x par Done Done' i j (h.passing c k r) is_rule which in_x in_par (ready.query.short i is_rule) l;
          })

      going_keep : {Done' : ℕ → Type 0} → ((r : ℕ) → Done' r → (r ≡ i) ⊎ Done r) → g ≡ false → Going S D P Q x₀ par₀ x' par' Done' (j + 1)
      going_keep {Done'} which e =
          let (l, ex, ep) = risen.kept e in
          rw (ex, ep, add-one j)
          (record {
            x_room = h.x_room;
            par_room = h.par_room;
            passing = λ c k r. passing_leave S D P Q 1000000 c x₀ x par Done Done' i j (h.passing c k r) is_rule which l;
          })

      pub going_on : {Done' : ℕ → Type 0} → ((r : ℕ) → Done' r → (r ≡ i) ⊎ Done r) → Going S D P Q x₀ par₀ x' par' Done' (j + 1)
      going_on which = ⊎_elim (going_raise which) (going_keep which) (either g)

      pub told_raise : {f' : Bool} → g ≡ true → f' ≡ true → Told S x₀ x' f'
      told_raise e t =
          let (l, ex, ep) = risen.raised e in
          rw (t, ex)
          (record {
            quiet = λ e. absurd (true≢false e);
            busy = λ e. (i, is_rule, omega (arith, get_or-set_same x (S.target i) (get_or x (S.source i) 0 + Q * D i - P * S.offset i) 0 in_x, so_far.up (S.target i)));
          })

      pub told_keep : {f f' : Bool} → Told S x₀ x f → g ≡ false → f' ≡ f → Told S x₀ x' f'
      told_keep told e t = let (l, ex, ep) = risen.kept e in rw (t, ex) told

  pub going_skip : {x par : List ℕ} {j : ℕ} → Going S D P Q x₀ par₀ x par None j → Going S D P Q x₀ par₀ x par None (j + 1)
  going_skip {x} {par} {j} h =
      rw (add-one j) (record { x_room = h.x_room; par_room = h.par_room; passing = λ c k r. passing_skip S D P Q 1000000 c j x₀ x par None (h.passing c k r) })

  pub going_end : {x par : List ℕ} {f : Bool} {i : ℕ} → i ≡ S.rules → Going S D P Q x₀ par₀ x par (Before i) i → Told S x₀ x f → Ended S D P Q x₀ par₀ x par f
  going_end {x} {par} {f} {i} all h told =
      record {
        x_room = h.x_room;
        par_room = h.par_room;
        passed = λ c k r.
            record {
              raised = raised_most S D P Q {k = suc k} {X = x} {par = par} (high c) (passing_end S D P Q 1000000 c k i x₀ x par₀ par (Before i) r every (h.passing c k r));
              quiet = λ e. settled S D P Q 1000000 c i x par (Before i) every (subst (λ y. Passing S D P Q 1000000 c y x par (Before i) i) (sym (told.quiet e)) (h.passing c k r));
              busy = told.busy;
            };
      }
    where
      every : (r : ℕ) → r < S.rules → Before i r
      every r b = omega arith

      high : (c : ℕ) → c + i * (Q * 1000000) ≤ c + rise
      high c = omega (arith, added i (omega (arith, ready.query.few_rules)))

  pub going_carried : {x par : List ℕ} {j : ℕ} → j ≤ 2048 → Going S D P Q x₀ par₀ x par None j → Carried S D P Q x₀ par₀ x par
  going_carried {x} {par} {j} few h =
      record {
        x_room = h.x_room;
        par_room = h.par_room;
        raised = λ c k r. raised_most S D P Q {k = k} {X = x} {par = par} (omega (arith, added j few)) (passing_carried S D P Q 1000000 c k j x₀ x par₀ par None r (h.passing c k r));
      }

-- a walk of parents is a closed walk
pub walk_of : {S : Shape} {D : ℕ → ℕ} {par : List ℕ} {n a e : ℕ} → ParentLoop S D par n a e → LowWalk S D n a e
walk_of w =
    record {
      is_walk = record { at = w.at; walk = w.walk; some_rule = w.some_rule; closed = w.closed; delays_are = w.delays_are; offsets_are = w.offsets_are };
      delays_low = w.delays_low;
      offsets_low = w.offsets_low;
    }

-- the search at one ratio ------------------------------------------------------------------------------------------------------------------
module _ {S : Shape} {D : ℕ → ℕ} {n P Q : ℕ} (query : Query S D n P Q) where
  wide : Query S D 256 P Q
  wide =
      record {
        few_rules = query.few_rules;
        some_transition = omega arith;
        few_transitions = omega arith;
        fits = λ r b. (omega (arith, query.fits r b, query.few_transitions), omega (arith, query.fits r b, query.few_transitions));
        small_offsets = query.small_offsets;
        short = query.short;
        p_low = query.p_low;
        q_low = query.q_low;
      }

  -- zeros, and the parents given
  pub settling_zeros : Ready S D P Q (replicate 256 0) (replicate 256 0)
  settling_zeros =
      record {
        query = wide;
        x_room = length-replicate {A = ℕ} 256 0;
        par_room = length-replicate {A = ℕ} 256 0;
        most = 0;
        passes = 0;
        low = omega arith;
        raised = raised_start S D P Q 256;
      }

  pub settling_start : {x par : List ℕ} → Carried S D P Q (replicate 256 0) (replicate 256 0) x par → Settling S D P Q n x par 0
  settling_start carried =
      record { few_passes = query.some_transition; x_room = carried.x_room; par_room = carried.par_room; raised = carried.raised 0 0 (raised_start S D P Q 256) }

  module _ {x₀ par₀ : List ℕ} {k : ℕ} (h : Settling S D P Q n x₀ par₀ k) where
    pub settling_ready : Ready S D P Q x₀ par₀
    settling_ready =
        record { query = wide; x_room = h.x_room; par_room = h.par_room; most = k * (3 * rise) + rise; passes = k; low = omega (arith, h.few_passes, query.few_transitions); raised = h.raised }

    -- a pass in another order, and then one in the file's order
    module _ {x₁ par₁ : List ℕ} (carried : Carried S D P Q x₀ par₀ x₁ par₁) where
      between : Raised S D P Q (k * (3 * rise) + rise + rise) k x₁ par₁
      between = carried.raised _ k h.raised

      pub settling_carried : Ready S D P Q x₁ par₁
      settling_carried =
          record { query = wide; x_room = carried.x_room; par_room = carried.par_room; most = k * (3 * rise) + rise + rise; passes = k; low = omega (arith, h.few_passes, query.few_transitions); raised = between }

      module _ {x par : List ℕ} {f : Bool} (ended : Ended S D P Q x₁ par₁ x par f) where
        passed : Passed S D P Q (k * (3 * rise) + rise + rise + rise) k x₁ x par f
        passed = ended.passed _ k between

        pub settling_sound : Sound S D P Q x par
        settling_sound = passed.raised.sound

        pub settling_scanned : Ready S D P Q x par
        settling_scanned =
            record {
              query = wide;
              x_room = ended.x_room;
              par_room = ended.par_room;
              most = k * (3 * rise) + rise + rise + rise;
              passes = suc k;
              low = omega (arith, h.few_passes, query.few_transitions);
              raised = passed.raised;
            }

        -- nothing rose: the least values that keep every rule
        pub settling_quiet : f ≡ false → LeastAt S D P Q x
        settling_quiet e =
            record { keeps = passed.quiet e; least = passed.raised.least; size = ended.x_room }

        module _ {met : Option Met} (scanned : Scanned S D n par met) where
          -- the parents came round: that walk is above P/Q
          pub settling_found : {w : Met} → met ≡ Some w → Higher S D P Q n w.delays w.offsets
          settling_found {w} t =
              let l = scanned.some w t in
              record { walk = walk_of l; above = round l.at l.walk l.some_rule l.closed l.parents l.delays_are l.offsets_are }
            where
              round : {a e : ℕ} (u : ℕ) (rs : List ℕ) → 0 < length rs → Walk S u u rs → Parents S par rs → delays D rs ≡ a → offsets S rs ≡ e → P * e < Q * a
              round u [] b c d ea ee = absurd (omega arith)
              round u (r ∷ rs) b c d ea ee = omega (arith, settling_sound.cycles u r rs c d, ap (λ t. Q * t) ea, ap (λ t. P * t) ee)

          -- they did not, though something rose: so this was not pass number n
          pub settling_on : {x₂ par₂ : List ℕ} → f ≡ true → met ≡ Nothing → Carried S D P Q x par x₂ par₂ → Settling S D P Q n x₂ par₂ (k + 1)
          settling_on {x₂} {par₂} t none again =
              rw (add-one k)
              (record {
                few_passes = more (passed.busy t);
                x_room = again.x_room;
                par_room = again.par_room;
                raised = raised_most S D P Q {k = suc k} {X = x₂} {par = par₂} (omega arith) (again.raised _ (suc k) passed.raised);
              })
            where
              not_last : ((r : ℕ) × (r < S.rules) × (get_or x₁ (S.target r) 0 < get_or x (S.target r) 0)) → n ≤ suc k → ⊥
              not_last (r, is_rule, up) b =
                  raised_not_grounded S n par D P Q x₁ x k (S.target r) query.fits settling_sound b between.reach up
                  (scanned.none none (S.target r) (query.fits r is_rule).1)

              more : ((r : ℕ) × (r < S.rules) × (get_or x₁ (S.target r) 0 < get_or x (S.target r) 0)) → suc k < n
              more b = let last = not_last b in by_cases (dec_lt (suc k) n) (λ l. l) (λ l. absurd (last (omega arith)))

-- LEAST VALUES ARE LOW. A schedule that passes come to has no value above the weight of a path, which has less than n rules; the least is below it.
module _ {S : Shape} {D : ℕ → ℕ} {n P Q : ℕ} (query : Query S D n P Q) (x : List ℕ) (keeps : Keeps S D P Q x) (least : (Y : List ℕ) → Keeps S D P Q Y → Below x Y) where
  abbrev top : List ℕ
  top = values S D P Q n n

  schedule : LeastSchedule S D n P Q top
  schedule = schedule_above S D n P Q query.fits (λ u rs l. closed_not_above S D P Q x keeps u rs l.closed)

  path_low : (u v y : ℕ) (rs : List ℕ) → u < n → Shortened S D P Q u v rs → y + P * offsets S rs ≤ Q * delays D rs → y ≤ Q * ((n - 1) * 1000000)
  path_low u v y rs b t l =
      let short = path_short S n query.fits u v t.path b t.walks t.distinct in
      let most = delays_most S D 1000000 query.short u v t.path t.walks in
      le_trans (omega (arith, t.heavy)) (mul-le-mul_left Q (le_trans most (mul-le-mul_right 1000000 (omega arith))))

  pub least_low : (v : ℕ) → get_or x v 0 ≤ Q * ((n - 1) * 1000000)
  least_low v = le_trans (least top schedule.is_schedule.keeps v) (by_cases (dec_lt v n) inside (λ l. omega (arith, get_or-eq_default top 0 {n = v} (omega (arith, schedule.is_schedule.size)))))
    where
      inside : v < n → get_or top v 0 ≤ Q * ((n - 1) * 1000000)
      inside b =
          let t = values_attained S D P Q n query.fits (replicate n 0) (le_of_eq (sym (length-replicate {A = ℕ} n 0))) n v b in
          ⊎_elim
          (λ o. absurd (omega (arith, o.above, closed_not_above S D P Q x keeps o.at o.loop o.is_loop.closed)))
          (λ h. path_low t.start v (get_or top v 0) t.walk t.start_below h (omega (arith, t.weight, zeros_at n t.start)))
          (shorten S D P Q (suc (length t.walk)) t.start v t.walk (omega arith) t.walks)

-- what a program divides by
pub quotient_divides : {a e d : ℕ} → 0 < e → IsGcd a e d → 0 < d
quotient_divides {a} {e} {d} turns gcd = divides_pos d e turns gcd.common.1

-- the climb --------------------------------------------------------------------------------------------------------------------------------
-- a ratio that the climb has come to is one to search at
pub rising_query : {source target offset : List ℕ} {m n P Q : ℕ} (delay : List ℕ) → Limits source target offset m n → Short delay m
    → Rising (shape source target offset m) (delay_at delay) P Q → Query (shape source target offset m) (delay_at delay) n P Q
rising_query delay l short rising =
    record {
      few_rules = l.few_rules;
      some_transition = l.some_transition;
      few_transitions = l.few_transitions;
      fits = l.fits;
      small_offsets = l.small_offsets;
      short = short;
      p_low = rising.p_low;
      q_low = rising.q_low;
    }

pub query_limits : {source target offset : List ℕ} {m n P Q : ℕ} {D : ℕ → ℕ} → Query (shape source target offset m) D n P Q → Limits source target offset m n
query_limits q =
    record { few_rules = q.few_rules; some_transition = q.some_transition; few_transitions = q.few_transitions; fits = q.fits; small_offsets = q.small_offsets }

module _ {S : Shape} {D : ℕ → ℕ} where
  -- 0/1 is in lowest terms
  pub rising_start : Rising S D 0 1
  rising_start =
      record {
        p_low = omega arith;
        q_low = omega arith;
        q_pos = omega arith;
        lowest = (gcd_quotients 0 1 1 (omega arith) (record { common = ((0, omega arith), (1, omega arith)); greatest = λ e c. c.1 })).lowest;
        attained = inl (refl, refl);
      }

  module _ {P Q n : ℕ} {x : List ℕ} (rising : Rising S D P Q) (end : LeastAt S D P Q x) where
    -- no closed walk is above P/Q
    pub rising_end : Query S D n P Q → Reached S D P Q x
    rising_end query =
        record {
          climbed = record { q_pos = rising.q_pos; lowest = rising.lowest; keeps = end.keeps; least = end.least; attained = rising.attained };
          p_low = rising.p_low;
          q_low = rising.q_low;
          size = end.size;
          low = λ v. le_trans (least_low query x end.keeps end.least v) (mul-le-mul {n₁ = Q} {m₁ = (n - 1) * 1000000} {n₂ = 3840} {m₂ = 255000000} rising.q_low (omega (arith, query.few_transitions)));
        }

-- a closed walk's quotient, in lowest terms, is a ratio to come to
module _ {S : Shape} {D : ℕ → ℕ} {n a e : ℕ} (live : Live S) (few : n ≤ 256) (w : LowWalk S D n a e) where
  pub walk_loop : SomeLoop S
  walk_loop = walk_some S D a e w.is_walk

  pub walk_turns : 0 < e
  walk_turns = let c = w.is_walk in omega (arith, closed_turns S live c.at c.walk c.some_rule c.closed, c.offsets_are)

  module _ {p q : ℕ} (red : Quotient a e p q) where
    pub rising_walk : Rising S D p q
    rising_walk =
        let r = red.1 in
        let turns = walk_turns in
        let d_pos = divides_pos red.0 e turns (q, r.q_is) in
        record {
          p_low = omega (arith, r.p_is, mul-le-mul_left p d_pos, w.delays_low);
          q_low = omega (arith, r.q_is, mul-le-mul_left q d_pos, w.offsets_low);
          q_pos = divides_pos q e turns (red.0, omega (arith, r.q_is));
          lowest = r.lowest;
          attained = inr (a, e, w.is_walk, omega (arith, ap (λ t. q * t) r.p_is, ap (λ t. p * t) r.q_is));
        }

    -- above P/Q, it leaves fewer steps
    pub rising_less : {P Q : ℕ} → Rising S D P Q → P * e < Q * a → left p q < left P Q
    rising_less {P} {Q} rising higher =
        omega (
          arith,
          climbs 3840 P Q p q rising.q_pos rising_walk.q_pos rising.q_low rising_walk.q_low above,
          most,
        )
      where
        above : P * q < p * Q
        above = lt_of_mul-lt-mul_right red.0 (omega (arith, higher, ap (λ t. Q * t) red.1.p_is, ap (λ t. P * t) red.1.q_is))

        most : p * (3840 * 3840) / q ≤ 3774873600000000
        most = omega (arith, div-le_self (p * (3840 * 3840)) q, rising_walk.p_low)
