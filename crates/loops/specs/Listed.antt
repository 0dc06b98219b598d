-- The rules of a kind, listed by number, and the columns of the listed rules only.
--
--   Listed A list len m            == the first len places of the list hold the rules below m of the kind A, lowest first
--   listed_none, listed_add, listed_past, listed_skip   the loop that lists them
--   Sifted held failed list len m   == the same of the rules for which a test held; for the others it failed
--   sift_none, sift_kept, sift_passed   the loop that tests them
--   sifted_listed                  where the test tells the kind: the places that count are the list of the kind
--   listed_few                     every listed number is the number of a rule of the columns
--   Gathered column list len xs    == place j of xs holds the column's entry for rule j of the list
--   gathered_add                   the loop that gathers them
--   picks                          gathered columns say the shape of the listed rules
--   Within from to len             == the two ends of every rule are below 256
--   limits_picked, limits_within, limits_most   what the limits of the whole list give
--   WithinListed, within_listed    what is asked of a list before its columns are gathered, and that it holds
use Rattle.std.specs.Prelude.{◌≡◌, ◌⊎◌, List, [], ℕ, ◌+◌, ◌≤◌, ◌<◌, length, get_or, set, take}
use Rattle.std.proofs.Common.{sym, ◌∙◌, inl, inr, ⊎_elim, arith, get_or-set_same, get_or-set_other, get_or-take}
use Rattle.std.proofs.lemmas.List.{length-take-le}
use Rattle.std.proofs.Math.Logic.{by_cases}
use Rattle.std.proofs.Math.Decide.{ℕ_discrete}
use Rattle.theory.specs.Near.{Picks}
use Rattle.columns.specs.Columns.{shape, Limits}
use Rattle.peel.specs.Plain.{plain}

-- the first len places hold the rules below m of the kind A, lowest first
pub record Listed (A : ℕ → Type 0) (list : List ℕ) (len m : ℕ) : Type 0 where
  pub few : len ≤ m
  pub below : (j : ℕ) → j < len → get_or list j 0 < m
  pub kind : (j : ℕ) → j < len → A (get_or list j 0)
  pub ascending : (i j : ℕ) → i < j → j < len → get_or list i 0 < get_or list j 0
  pub all : (r : ℕ) → r < m → A r → (j : ℕ) × (j < len) × (get_or list j 0 ≡ r)

module _ (A : ℕ → Type 0) (list : List ℕ) where
  pub listed_none : Listed A list 0 0
  listed_none =
      record { few = omega arith; below = λ j l. absurd (omega arith); kind = λ j l. absurd (omega arith); ascending = λ i j h l. absurd (omega arith); all = λ r l a. absurd (omega arith) }

  pub listed_skip : (len r : ℕ) → Listed A list len r → ¬ (A r) → Listed A list len (r + 1)
  listed_skip len r h n =
      record {
        few = omega (arith, h.few);
        below = λ j l. omega (arith, h.below j l);
        kind = h.kind;
        ascending = h.ascending;
        all = λ q l a. by_cases (ℕ_discrete q r) (λ e. absurd (n (rw e at a))) (λ d. h.all q (omega arith) a);
      }

  -- the places before stay as they were
  kept_before : (len r j : ℕ) → j < len → get_or (set list len r) j 0 ≡ get_or list j 0
  kept_before len r j l = get_or-set_other list len j r 0 (λ e. omega arith)

  -- what stands past them does not count
  pub listed_past : (len m x : ℕ) → Listed A list len m → Listed A (set list len x) len m
  listed_past len m x h =
      record {
        few = h.few;
        below = λ j l. omega (arith, kept_before len x j l, h.below j l);
        kind = λ j l. rw (kept_before len x j l) (h.kind j l);
        ascending = λ i j s l. omega (arith, kept_before len x i (omega arith), kept_before len x j l, h.ascending i j s l);
        all = λ q l a. let t = h.all q l a in (t.0, t.1, kept_before len x t.0 t.1 ∙ t.2);
      }

  module _ (len r : ℕ) (h : Listed A list len r) (a : A r) (room : len < length list) where
    kept : (j : ℕ) → j < len → get_or (set list len r) j 0 ≡ get_or list j 0
    kept = kept_before len r

    last : get_or (set list len r) len 0 ≡ r
    last = get_or-set_same list len r 0 room

    pub listed_add : Listed A (set list len r) (len + 1) (r + 1)
    listed_add =
        record {
          few = omega (arith, h.few);
          below = λ j l. by_cases (ℕ_discrete j len) (λ e. rw (e, last) (omega arith)) (λ d. let b : j < len = omega arith in omega (arith, kept j b, h.below j b));
          kind = λ j l. by_cases (ℕ_discrete j len) (λ e. rw (e, last) a) (λ d. let b : j < len = omega arith in rw (kept j b) (h.kind j b));
          ascending = λ i j s l.
              by_cases (ℕ_discrete j len)
              (λ e. let b : i < len = omega arith in rw (e, last) (omega (arith, kept i b, h.below i b)))
              (λ d. let b : j < len = omega arith in omega (arith, kept i (omega arith), kept j b, h.ascending i j s b));
          all = λ q l b.
              by_cases (ℕ_discrete q r)
              (λ e. (len, omega arith, last ∙ sym e))
              (λ d. let t = h.all q (omega arith) b in (t.0, omega (arith, t.1), kept t.0 t.1 ∙ t.2));
        }

-- the first len places hold the rules below m for which a test held, lowest first; for the others it failed
pub record Sifted (held failed : ℕ → Type 0) (list : List ℕ) (len m : ℕ) : Type 0 where
  pub few : len ≤ m
  pub below : (j : ℕ) → j < len → get_or list j 0 < m
  pub kind : (j : ℕ) → j < len → held (get_or list j 0)
  pub ascending : (i j : ℕ) → i < j → j < len → get_or list i 0 < get_or list j 0
  pub all : (r : ℕ) → r < m → ((j : ℕ) × (j < len) × (get_or list j 0 ≡ r)) ⊎ failed r

module _ (held failed : ℕ → Type 0) (list : List ℕ) where
  pub sift_none : Sifted held failed list 0 0
  sift_none =
      record { few = omega arith; below = λ j l. absurd (omega arith); kind = λ j l. absurd (omega arith); ascending = λ i j h l. absurd (omega arith); all = λ r l. absurd (omega arith) }

  module _ (len r : ℕ) (h : Sifted held failed list len r) where
    same : (x j : ℕ) → j < len → get_or (set list len x) j 0 ≡ get_or list j 0
    same x j l = get_or-set_other list len j x 0 (λ e. omega arith)

    -- rule r is written at place len
    pub sift_kept : held r → len < length list → Sifted held failed (set list len r) (len + 1) (r + 1)
    sift_kept y room =
        record {
          few = omega (arith, h.few);
          below = λ j l. by_cases (ℕ_discrete j len) (λ e. rw (e, last) (omega arith)) (λ d. let b : j < len = omega arith in omega (arith, same r j b, h.below j b));
          kind = λ j l. by_cases (ℕ_discrete j len) (λ e. rw (e, last) y) (λ d. let b : j < len = omega arith in rw (same r j b) (h.kind j b));
          ascending = λ i j s l.
              by_cases (ℕ_discrete j len)
              (λ e. let b : i < len = omega arith in rw (e, last) (omega (arith, same r i b, h.below i b)))
              (λ d. let b : j < len = omega arith in omega (arith, same r i (omega arith), same r j b, h.ascending i j s b));
          all = λ q l.
              by_cases (ℕ_discrete q r)
              (λ e. inl (len, omega arith, last ∙ sym e))
              (λ d. ⊎_elim (λ t. inl (t.0, omega (arith, t.1), same r t.0 t.1 ∙ t.2)) (λ n. inr n) (h.all q (omega arith)));
        }
      where
        last : get_or (set list len r) len 0 ≡ r
        last = get_or-set_same list len r 0 room

    -- what is written there does not count
    pub sift_passed : (x : ℕ) → failed r → Sifted held failed (set list len x) len (r + 1)
    sift_passed x n =
        record {
          few = omega (arith, h.few);
          below = λ j l. omega (arith, same x j l, h.below j l);
          kind = λ j l. rw (same x j l) (h.kind j l);
          ascending = λ i j s l. omega (arith, same x i (omega arith), same x j l, h.ascending i j s l);
          all = λ q l.
              by_cases (ℕ_discrete q r)
              (λ e. inr (rw e n))
              (λ d. ⊎_elim (λ t. inl (t.0, t.1, same x t.0 t.1 ∙ t.2)) (λ m. inr m) (h.all q (omega arith)));
        }

-- where the test tells the kind, the places that count are the list of the kind
pub sifted_listed : (A held failed : ℕ → Type 0) (list : List ℕ) (len m : ℕ) → ((r : ℕ) → r < m → held r → A r) → ((r : ℕ) → r < m → failed r → ¬ (A r)) → len ≤ length list
    → Sifted held failed list len m → Listed A (take len list) (length (take len list)) m
sifted_listed A held failed list len m is not room h =
    let size : length (take len list) ≡ len = length-take-le len list room in
    rw size (
    record {
      few = h.few;
      below = λ j l. rw (at j l) (h.below j l);
      kind = λ j l. rw (at j l) (is (get_or list j 0) (h.below j l) (h.kind j l));
      ascending = λ i j s l. omega (arith, at i (omega arith), at j l, h.ascending i j s l);
      all = λ r l a. ⊎_elim (λ t. (t.0, t.1, at t.0 t.1 ∙ t.2)) (λ n. absurd (not r l n a)) (h.all r l);
    }
    )
  where
    at : (j : ℕ) → j < len → get_or (take len list) j 0 ≡ get_or list j 0
    at j l = get_or-take len list j 0 l

-- every listed number is the number of a rule of the columns
pub listed_few : (A : ℕ → Type 0) (list : List ℕ) (len m : ℕ) → Listed A list len m → m ≤ 2048 → (len ≤ 2048) × ((j : ℕ) → j < len → get_or list j 0 < 2048)
listed_few A list len m h b = (omega (arith, h.few), λ j l. omega (arith, h.below j l))

-- place j of xs holds the column's entry for rule j of the list
abbrev pub Gathered : List ℕ → List ℕ → ℕ → List ℕ → Type 0
Gathered column list len xs = (j : ℕ) → j < len → get_or xs j 0 ≡ get_or column (get_or list j 0) 0

pub gathered_add : (column list xs : List ℕ) (j x : ℕ) → Gathered column list j xs → j < length xs → x ≡ get_or column (get_or list j 0) 0 → Gathered column list (j + 1) (set xs j x)
gathered_add column list xs j x g room e i l =
    by_cases (ℕ_discrete i j)
    (λ s. rw (s, get_or-set_same xs j x 0 room) e)
    (λ d. get_or-set_other xs j i x 0 d ∙ g i (omega arith))

module _ (source target offset list from to : List ℕ) (m len : ℕ) (gf : Gathered source list len from) (gt : Gathered target list len to) where
  pub picks : (A : ℕ → Type 0) → Listed A list len m → Picks A (shape source target offset m) (plain from to len) (λ j. get_or list j 0)
  picks A h = record { is_rule = h.below; kind = h.kind; source_is = gf; target_is = gt; ascending = h.ascending; all = h.all }

  pub limits_picked : (A : ℕ → Type 0) (n : ℕ) → Listed A list len m → Limits source target offset m n → Limits from to [] len n
  limits_picked A n h l =
      record {
        few_rules = omega (arith, h.few, l.few_rules);
        some_transition = l.some_transition;
        few_transitions = l.few_transitions;
        fits = λ j b. let f = l.fits (get_or list j 0) (h.below j b) in (omega (arith, gf j b, f), omega (arith, gt j b, f));
        small_offsets = λ r b. omega arith;
      }

-- what is asked of a list before its columns are gathered
pub record WithinListed (source target list : List ℕ) (n : ℕ) : Type 0 where
  pub few : length list ≤ 2048
  pub below : (j : ℕ) → j < length list → get_or list j 0 < 2048
  pub limits : (from to : List ℕ) → Gathered source list (length list) from → Gathered target list (length list) to → Limits from to [] (length list) n

pub within_listed : (source target offset list : List ℕ) (m n : ℕ) (A : ℕ → Type 0) → Limits source target offset m n → Listed A list (length list) m → WithinListed source target list n
within_listed source target offset list m n A l h =
    let few = listed_few A list (length list) m h l.few_rules in
    record { few = few.0; below = few.1; limits = λ from to gf gt. limits_picked source target offset list from to m (length list) gf gt A n h l }

-- there is room for the rules, and their two ends are below 256
pub record Within (from to : List ℕ) (len : ℕ) : Type 0 where
  pub few : len ≤ 2048
  pub from_below : (j : ℕ) → j < len → get_or from j 0 < 256
  pub to_below : (j : ℕ) → j < len → get_or to j 0 < 256

pub limits_within : (from to : List ℕ) (len n : ℕ) → Limits from to [] len n → Within from to len
limits_within from to len n l =
    record {
      few = l.few_rules;
      from_below = λ j b. omega (arith, l.fits j b, l.few_transitions);
      to_below = λ j b. omega (arith, l.fits j b, l.few_transitions);
    }

-- the limits with the highest number of transitions
pub limits_most : (source target offset : List ℕ) (m n : ℕ) → Limits source target offset m n → Limits source target offset m 256
limits_most source target offset m n l =
    record {
      few_rules = l.few_rules;
      some_transition = omega arith;
      few_transitions = omega arith;
      fits = λ r b. let f = l.fits r b in (omega (arith, l.few_transitions), omega (arith, l.few_transitions));
      small_offsets = l.small_offsets;
    }
