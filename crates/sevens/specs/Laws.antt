-- The laws of numbers in groups of seven bits, for any count of groups g.
--
-- A number as written
--   raw_last, raw_more              a number by its first byte
--   raw_size, raw_value             its size is 1 or more, at most g and the count of bytes; its value is below 128 ^ g
--   Follow s k                      the first k bytes are there, and each says that another group follows
--   CutCase, LongCase               a byte is missing; the number is not written as it should be
--   raw_cut, cut_raw                Cut is told exactly where a byte is missing
--   raw_long, long_raw              Long is told exactly where the number is not written as it should be
-- A number within limits
--   number_cut, -long, -low, -high, -accepted   the answer in each case
--   number_split                    EACH REFUSAL EXACTLY IN ITS CASE: what holds in every case holds of the answer
--   refused_cut, -long, -range      the case of each refusal
--   number_refused                  refused, there is no value and no rest
--   number_within, number_most      accepted, a number is within its limits; no value is above the highest
--   cut_place_lem, long_place_lem, number_place   a place is not past the bytes
--   cut_take, long_take             nor does it depend on what follows the groups
--   cut_length                      WHERE THE MISSING BYTE WOULD BE is where refusal 1 stands
--   long_stop, long_byte            THE BYTE THAT BREAKS THE RULE is where refusal 2 stands
--   number_rest, number_next        the rest is not longer than the bytes; accepted, it is shorter and their end
--   read_one                        ONLY ONE: what reading promises has one outcome
-- Codes
--   code_last, code_more            the bytes of a number by its size: what code_of means; code_length_last, -more: how many
--   code_some, code_size            a code has 1 byte or more, and at most g below 128 ^ g
--   code_bytes                      its bytes are bytes
--   code_read, number_code          WHAT IS WRITTEN IS READ, whatever follows
--   read_code, read_split, number_back   WHAT WAS READ IS WHAT WOULD BE WRITTEN
-- Writing
--   put_room, put_none              what a call of put leaves
--   put_left                        a turn of a loop that writes code after code
--   sets_append, sets_front         one run of bytes after another; a run from the start on
-- Bytes
--   bytes_drop, bytes_rest          the end of bytes, and what reading leaves, are bytes
use Rattle.std.specs.Prelude.{ℕ, zero, suc, ◌+◌, ◌-◌, ◌*◌, ◌/◌, ◌%◌, ◌^◌, ◌≤◌, ◌<◌, List, [], ◌∷◌, ◌++◌, ◌⊎◌, ◌≡◌, refl, length, get_or, drop, take, set, ltb}
use Rattle.std.proofs.Math.Logic.{by_cases}
use Rattle.std.proofs.Common.{⊎_elim, inl, inr, ap, sym, ◌∙◌, subst, arith, add-one, pow-suc, add-zero, length-drop, length-take, length-append, take-append-drop, get_or-drop}
use Rattle.std.proofs.Math.Decide.{dec_lt}
use Rattle.std.proofs.Math.Nat.{pow-zero, one-le-pow}
use borrow.Author.Tests.{le-ltb, lt-ltb, le-leb, lt-leb}
use Rattle.std.proofs.lemmas.List.Edits.{sets, sets-eq}
use Rattle.std.proofs.Math.Seq.{length-sets, drop-append_seam}
use Rattle.sevens.specs.declared.Raw.{Raw}
use Rattle.sevens.specs.declared.Raw.TheVariants.{Cut, Long, Value}
use Rattle.sevens.specs.Sevens.{pick, followed, raw_of, cut_place_of, marked, long_place_of, Answer, refused, accepted, limited, number_of, Read, code_in, code_of, code_length_of, Put, put_of, Bytes}

-- ---- a number as written

pub raw_last : (g b : ℕ) (s : List ℕ) → b < 128 → raw_of (suc g) (b ∷ s) ≡ Value b 1
unfolding raw_of
raw_last g b s h = simp (lt-ltb b 128 h)

pub raw_more : (g b : ℕ) (s : List ℕ) → 128 ≤ b → raw_of (suc g) (b ∷ s) ≡ followed b (raw_of g s)
unfolding raw_of
raw_more g b s h = simp (le-ltb b 128 h)

-- a family of facts holds of a number if it holds of one group and of one group more
raw_family : (P : ℕ → List ℕ → Raw → Type 0)
    → ((s : List ℕ) → P 0 s Long)
    → ((g : ℕ) → P (suc g) [] Cut)
    → ((g b : ℕ) (s : List ℕ) → b < 128 → P (suc g) (b ∷ s) (Value b 1))
    → ((g b : ℕ) (s : List ℕ) → 128 ≤ b → P g s (raw_of g s) → P (suc g) (b ∷ s) (followed b (raw_of g s)))
    → (g : ℕ) (s : List ℕ) → P g s (raw_of g s)
unfolding raw_of
raw_family P none cut last more zero s = none s
raw_family P none cut last more (suc g) [] = cut g
raw_family P none cut last more (suc g) (b ∷ s) =
    by_cases (dec_lt b 128)
    (λ l. subst (P (suc g) (b ∷ s)) (sym (raw_last g b s l)) (last g b s l))
    (λ l. subst (P (suc g) (b ∷ s)) (sym (raw_more g b s (omega arith))) (more g b s (omega arith) (raw_family P none cut last more g s)))

abbrev Sized : ℕ → List ℕ → Raw → Type 0
Sized g s Cut = 0 ≤ 0
Sized g s Long = 0 ≤ 0
Sized g s (Value v k) = (1 ≤ k) × (k ≤ g) × (k ≤ length s)

sized_followed : (g b : ℕ) (s : List ℕ) (x : Raw) → Sized g s x → Sized (suc g) (b ∷ s) (followed b x)
unfolding followed
sized_followed g b s Cut o = o
sized_followed g b s Long o = o
sized_followed g b s (Value zero k) o = omega arith
sized_followed g b s (Value (suc v) k) o = omega arith

pub raw_size : (g : ℕ) (s : List ℕ) (v k : ℕ) → raw_of g s ≡ Value v k → (1 ≤ k) × (k ≤ g) × (k ≤ length s)
raw_size g s v k e =
    subst (Sized g s) e
    (raw_family Sized (λ s. omega arith) (λ g. omega arith) (λ g b s l. omega arith) (λ g b s l o. sized_followed g b s (raw_of g s) o) g s)

abbrev Small : ℕ → List ℕ → Raw → Type 0
Small g s Cut = 0 ≤ 0
Small g s Long = 0 ≤ 0
Small g s (Value v k) = Bytes s → v < 128 ^ g

small_followed : (g b : ℕ) (s : List ℕ) (x : Raw) → Small g s x → Small (suc g) (b ∷ s) (followed b x)
unfolding followed
small_followed g b s Cut o = o
small_followed g b s Long o = o
small_followed g b s (Value zero k) o = omega arith
small_followed g b s (Value (suc v) k) o = λ h. omega (arith, pow-suc 128 g, h 0, o (λ k. h (suc k)))

pub raw_value : (g : ℕ) (s : List ℕ) (v k : ℕ) → Bytes s → raw_of g s ≡ Value v k → v < 128 ^ g
raw_value g s v k h e =
    subst (Small g s) e
    (raw_family Small (λ s. omega arith) (λ g. omega arith)
    (λ g b s l h. omega (arith, pow-suc 128 g, one-le-pow g 128 (omega arith)))
    (λ g b s l o. small_followed g b s (raw_of g s) o) g s) h

-- ---- exactly when

-- the first k bytes are there, and each says that another group follows
abbrev pub Follow : List ℕ → ℕ → Type 0
Follow s k = (i : ℕ) → i < k → 128 ≤ get_or s i 0

-- the bytes end before the number does
abbrev pub CutCase : ℕ → List ℕ → Type 0
CutCase g s = (length s < g) × Follow s (length s)

-- the last group that there may be says that another follows, or the last of several groups is zero
abbrev pub LongCase : ℕ → List ℕ → Type 0
LongCase g s = Follow s g ⊎ ((k : ℕ) × (1 ≤ k) × (k < g) × (k < length s) × Follow s k × (get_or s k 0 ≡ 0))

abbrev CaseOf : ℕ → List ℕ → Raw → Type 0
CaseOf g s Cut = CutCase g s
CaseOf g s Long = LongCase g s
CaseOf g s (Value v k) = (v ≡ 0) → (k ≡ 1) × (1 ≤ g) × (1 ≤ length s) × (get_or s 0 0 ≡ 0)

follow_more : (b : ℕ) (s : List ℕ) (k : ℕ) → 128 ≤ b → Follow s k → Follow (b ∷ s) (suc k)
follow_more b s k h f zero l = h
follow_more b s k h f (suc i) l = f i (omega arith)

case_followed : (g b : ℕ) (s : List ℕ) (x : Raw) → 128 ≤ b → CaseOf g s x → CaseOf (suc g) (b ∷ s) (followed b x)
unfolding followed
case_followed g b s Cut h o = (omega arith, follow_more b s (length s) h o.1)
case_followed g b s Long h o =
    ⊎_elim
    (λ f. inl (follow_more b s g h f))
    (λ f. inr (suc f.0, omega arith, omega arith, omega arith, follow_more b s f.0 h f.4, f.5))
    o
case_followed g b s (Value zero k) h o =
    let z = o refl in
    inr (1, omega arith, omega arith, omega arith, follow_more b s 0 h (λ i l. absurd (omega arith)), z.3)
case_followed g b s (Value (suc v) k) h o = λ e. absurd (omega arith)

raw_case : (g : ℕ) (s : List ℕ) → CaseOf g s (raw_of g s)
raw_case =
    raw_family CaseOf (λ s. inl (λ i l. absurd (omega arith))) (λ g. (omega arith, λ i l. absurd (omega arith)))
    (λ g b s l e. (refl, omega arith, omega arith, e))
    (λ g b s l o. case_followed g b s (raw_of g s) l o)

pub raw_cut : (g : ℕ) (s : List ℕ) → raw_of g s ≡ Cut → CutCase g s
raw_cut g s e = subst (CaseOf g s) e (raw_case g s)

pub raw_long : (g : ℕ) (s : List ℕ) → raw_of g s ≡ Long → LongCase g s
raw_long g s e = subst (CaseOf g s) e (raw_case g s)

pub cut_raw : (g : ℕ) (s : List ℕ) → CutCase g s → raw_of g s ≡ Cut
unfolding raw_of followed
cut_raw zero s h = absurd (omega arith)
cut_raw (suc g) [] h = refl
cut_raw (suc g) (b ∷ s) h =
    raw_more g b s (h.1 0 (omega arith)) ∙ ap (followed b) (cut_raw g s (omega arith, λ i l. h.1 (suc i) (omega arith)))

follow_long : (g : ℕ) (s : List ℕ) → Follow s g → raw_of g s ≡ Long
unfolding raw_of followed
follow_long zero s h = refl
follow_long (suc g) [] h = absurd (omega (arith, h 0 (omega arith)))
follow_long (suc g) (b ∷ s) h =
    raw_more g b s (h 0 (omega arith)) ∙ ap (followed b) (follow_long g s (λ i l. h (suc i) (omega arith)))

-- k groups follow one another before a group of zero
zero_long : (g k : ℕ) (s : List ℕ) → 1 ≤ k → k < g → k < length s → Follow s k → get_or s k 0 ≡ 0 → raw_of g s ≡ Long
unfolding followed
zero_long g zero s p l m f z = absurd (omega arith)
zero_long zero (suc k) s p l m f z = absurd (omega arith)
zero_long (suc g) (suc k) [] p l m f z = absurd (omega arith)
zero_long (suc zero) (suc zero) (b ∷ s) p l m f z = absurd (omega arith)
zero_long (suc (suc g)) (suc zero) (b ∷ []) p l m f z = absurd (omega arith)
zero_long (suc (suc g)) (suc zero) (b ∷ d ∷ s) p l m f z =
    raw_more (suc g) b (d ∷ s) (f 0 (omega arith)) ∙ ap (followed b) (raw_last g d s (omega arith) ∙ ap (λ n. Value n 1) z)
zero_long (suc g) (suc (suc k)) (b ∷ s) p l m f z =
    raw_more g b s (f 0 (omega arith))
    ∙ ap (followed b) (zero_long g (suc k) s (omega arith) (omega arith) (omega arith) (λ i j. f (suc i) (omega arith)) z)

pub long_raw : (g : ℕ) (s : List ℕ) → LongCase g s → raw_of g s ≡ Long
long_raw g s h = ⊎_elim (follow_long g s) (λ f. zero_long g f.0 s f.1 f.2 f.3 f.4 f.5) h

-- ---- a number within limits

-- all that others know of the two places: nobody else looks inside them

-- WHERE THE MISSING BYTE WOULD BE is where refusal 1 stands
pub cut_length : (g : ℕ) (s : List ℕ) → cut_place_of g s ≡ length s
unfolding cut_place_of
cut_length g s = refl

pub cut_place_lem : (g : ℕ) (s : List ℕ) → cut_place_of g s ≤ length s
cut_place_lem g s = omega (arith, cut_length g s)

marked_length : (k : ℕ) (s : List ℕ) → marked k s ≤ length s
unfolding marked
marked_length zero s = omega arith
marked_length (suc k) [] = omega arith
marked_length (suc k) (b ∷ s) =
    by_cases (dec_lt b 128) (λ l. simp (lt-ltb b 128 l) (omega arith)) (λ l. simp (le-ltb b 128 (omega arith)) (omega (arith, marked_length k s)))

pub long_place_lem : (g : ℕ) (s : List ℕ) → long_place_of g s ≤ length s
unfolding long_place_of
long_place_lem g s = marked_length (g - 1) s

-- the places are the same in the first k bytes, where these hold all groups
pub cut_take : (g k : ℕ) (s : List ℕ) → g ≤ k → raw_of g s ≡ Cut → cut_place_of g (take k s) ≡ cut_place_of g s
cut_take g k s h e = omega (arith, cut_length g (take k s), cut_length g s, length-take k s, (raw_cut g s e).0)

marked_take : (n k : ℕ) (s : List ℕ) → n ≤ k → marked n (take k s) ≡ marked n s
unfolding marked
marked_take zero k s h = refl
marked_take (suc n) zero s h = absurd (omega arith)
marked_take (suc n) (suc k) [] h = refl
marked_take (suc n) (suc k) (b ∷ s) h = ap (λ m. pick (ltb b 128) 0 (suc m)) (marked_take n k s (omega arith))

pub long_take : (g k : ℕ) (s : List ℕ) → g ≤ k → raw_of g s ≡ Long → long_place_of g (take k s) ≡ long_place_of g s
unfolding long_place_of
long_take g k s h e = marked_take (g - 1) k s (omega arith)

-- the count of bytes with a top bit set, once one without it is found, or there is none among the first n
marked_stop : (n k : ℕ) (s : List ℕ) → k ≤ n → Follow s k → (k < n → get_or s k 0 < 128) → marked n s ≡ k
unfolding marked
marked_stop zero k s h f z = omega arith
marked_stop (suc n) zero [] h f z = refl
marked_stop (suc n) zero (b ∷ s) h f z = simp (lt-ltb b 128 (z (omega arith)))
marked_stop (suc n) (suc k) [] h f z = absurd (omega (arith, f 0 (omega arith)))
marked_stop (suc n) (suc k) (b ∷ s) h f z =
    simp (le-ltb b 128 (f 0 (omega arith)))
    (ap suc (marked_stop n k s (omega arith) (λ i l. f (suc i) (omega arith)) (λ l. z (omega arith))))

-- after k bytes with a top bit set, refusal 2 stands at byte k where this is the g-th or its top bit is not set
pub long_stop : (g k : ℕ) (s : List ℕ) → k < g → Follow s k → (k < g - 1 → get_or s k 0 < 128) → long_place_of g s ≡ k
unfolding long_place_of
long_stop g k s h f z = marked_stop (g - 1) k s (omega arith) f z

-- THE BYTE THAT BREAKS THE RULE: the last byte that there may be where its top bit is set, otherwise the last of several groups, which is zero
abbrev pub BadByte : ℕ → List ℕ → ℕ → Type 0
BadByte g s k = Follow s k × (((suc k ≡ g) × (128 ≤ get_or s k 0)) ⊎ ((1 ≤ k) × (k < g) × (k < length s) × (get_or s k 0 ≡ 0)))

pub long_byte : (g : ℕ) (s : List ℕ) → 1 ≤ g → raw_of g s ≡ Long → BadByte g s (long_place_of g s)
long_byte g s h e =
    ⊎_elim
    (λ f. subst (BadByte g s) (sym (long_stop g (g - 1) s (omega arith) (λ i l. f i (omega arith)) (λ l. absurd (omega arith))))
    ((λ i l. f i (omega arith)), inl (omega arith, f (g - 1) (omega arith))))
    (λ f. subst (BadByte g s) (sym (long_stop g f.0 s f.2 f.4 (λ l. omega (arith, f.5)))) (f.4, inr (f.1, f.2, f.3, f.5)))
    (raw_long g s e)

module _ (g : ℕ) (s : List ℕ) (low high : ℕ) where
  pub number_cut : raw_of g s ≡ Cut → number_of g s low high ≡ refused 1 (cut_place_of g s)
  unfolding number_of limited
  number_cut e = rw e

  pub number_long : raw_of g s ≡ Long → number_of g s low high ≡ refused 2 (long_place_of g s)
  unfolding number_of limited
  number_long e = rw e

  pub number_low : (v k : ℕ) → raw_of g s ≡ Value v k → v < low → number_of g s low high ≡ refused 3 0
  unfolding number_of limited
  number_low v k e h = simp (e, lt-ltb v low h)

  pub number_high : (v k : ℕ) → raw_of g s ≡ Value v k → high < v → number_of g s low high ≡ refused 3 0
  unfolding number_of limited
  number_high v k e h =
      by_cases (dec_lt v low) (λ l. number_low v k e l) (λ l. simp (e, le-ltb v low (omega arith), lt-ltb high v h))

  pub number_accepted : (v k : ℕ) → raw_of g s ≡ Value v k → low ≤ v → v ≤ high → number_of g s low high ≡ accepted v (drop k s)
  unfolding number_of limited
  number_accepted v k e l h = simp (e, le-ltb v low l, le-ltb high v h)

  -- EACH REFUSAL IS GIVEN EXACTLY IN ITS CASE: what holds in the four cases holds of the answer
  pub number_split : (P : Answer → Type 0)
      → (raw_of g s ≡ Cut → P (refused 1 (cut_place_of g s)))
      → (raw_of g s ≡ Long → P (refused 2 (long_place_of g s)))
      → ((v k : ℕ) → raw_of g s ≡ Value v k → (v < low) ⊎ (high < v) → P (refused 3 0))
      → ((v k : ℕ) → raw_of g s ≡ Value v k → low ≤ v → v ≤ high → P (accepted v (drop k s)))
      → P (number_of g s low high)
  number_split P cut long range ok = at_raw (raw_of g s) refl
    where
      at_raw : (x : Raw) → raw_of g s ≡ x → P (number_of g s low high)
      at_raw Cut e = subst P (sym (number_cut e)) (cut e)
      at_raw Long e = subst P (sym (number_long e)) (long e)
      at_raw (Value v k) e =
          by_cases (dec_lt v low)
          (λ l. subst P (sym (number_low v k e l)) (range v k e (inl l)))
          (λ l. by_cases (dec_lt high v)
          (λ h. subst P (sym (number_high v k e h)) (range v k e (inr h)))
          (λ h. subst P (sym (number_accepted v k e (omega arith) (omega arith))) (ok v k e (omega arith) (omega arith))))

  pub number_within : (number_of g s low high).refusal ≡ 0 → (low ≤ (number_of g s low high).value) × ((number_of g s low high).value ≤ high)
  number_within =
      number_split (λ a. a.refusal ≡ 0 → (low ≤ a.value) × (a.value ≤ high))
      (λ e z. absurd (omega arith)) (λ e z. absurd (omega arith)) (λ v k e o z. absurd (omega arith)) (λ v k e l h z. (l, h))

  -- also where it is refused, a value is at most the highest
  pub number_most : (number_of g s low high).value ≤ high
  number_most = number_split (λ a. a.value ≤ high) (λ e. omega arith) (λ e. omega arith) (λ v k e o. omega arith) (λ v k e l h. h)

  pub number_place : (number_of g s low high).place ≤ length s
  number_place = number_split (λ a. a.place ≤ length s) (λ e. cut_place_lem g s) (λ e. long_place_lem g s) (λ v k e o. omega arith) (λ v k e l h. omega arith)

  pub number_rest : length (number_of g s low high).rest ≤ length s
  number_rest =
      number_split (λ a. length a.rest ≤ length s) (λ e. omega arith) (λ e. omega arith) (λ v k e o. omega arith)
      (λ v k e l h. omega (arith, length-drop k s))

  -- accepted, the rest is shorter than the bytes, and is their end
  pub number_next : (number_of g s low high).refusal ≡ 0
      → (length (number_of g s low high).rest < length s) × ((number_of g s low high).rest ≡ drop (length s - length (number_of g s low high).rest) s)
  number_next =
      number_split (λ a. a.refusal ≡ 0 → (length a.rest < length s) × (a.rest ≡ drop (length s - length a.rest) s))
      (λ e z. absurd (omega arith)) (λ e z. absurd (omega arith)) (λ v k e o z. absurd (omega arith))
      (λ v k e l h z.
      let size = raw_size g s v k e in
      let back : k ≡ length s - length (drop k s) = omega (arith, length-drop k s) in
      (omega (arith, length-drop k s), ap (λ n. drop n s) back))

  -- refused, there is no value and no rest
  pub number_refused : 0 < (number_of g s low high).refusal → number_of g s low high ≡ refused (number_of g s low high).refusal (number_of g s low high).place
  number_refused =
      number_split (λ a. 0 < a.refusal → a ≡ refused a.refusal a.place)
      (λ e z. refl) (λ e z. refl) (λ v k e o z. refl) (λ v k e l h z. absurd (omega arith))

  pub refused_cut : (number_of g s low high).refusal ≡ 1 → CutCase g s
  refused_cut =
      number_split (λ a. a.refusal ≡ 1 → CutCase g s)
      (λ e z. raw_cut g s e) (λ e z. absurd (omega arith)) (λ v k e o z. absurd (omega arith)) (λ v k e l h z. absurd (omega arith))

  pub refused_long : (number_of g s low high).refusal ≡ 2 → LongCase g s
  refused_long =
      number_split (λ a. a.refusal ≡ 2 → LongCase g s)
      (λ e z. absurd (omega arith)) (λ e z. raw_long g s e) (λ v k e o z. absurd (omega arith)) (λ v k e l h z. absurd (omega arith))

  pub refused_range : (number_of g s low high).refusal ≡ 3 → (v : ℕ) × (k : ℕ) × (raw_of g s ≡ Value v k) × ((v < low) ⊎ (high < v))
  refused_range =
      number_split (λ a. a.refusal ≡ 3 → (v : ℕ) × (k : ℕ) × (raw_of g s ≡ Value v k) × ((v < low) ⊎ (high < v)))
      (λ e z. absurd (omega arith)) (λ e z. absurd (omega arith)) (λ v k e o z. (v, k, e, o)) (λ v k e l h z. absurd (omega arith))

answer_same : (v w f h p q : ℕ) (r t : List ℕ) → ◌≡◌ {A = Answer} (record { value = v; refusal = f; place = p; rest = r }) (record { value = w; refusal = h; place = q; rest = t })
    → (v ≡ w) × (f ≡ h) × (p ≡ q) × (r ≡ t)
answer_same v w f h p q r t e = (ap (λ (a : Answer). a.value) e, ap (λ (a : Answer). a.refusal) e, ap (λ (a : Answer). a.place) e, ap (λ (a : Answer). a.rest) e)

pair_same : (a b : ℕ × ℕ) → a.0 ≡ b.0 → a.1 ≡ b.1 → a ≡ b
pair_same a b e f i = (e i, f i)

-- ONLY ONE: two readings of the same bytes hand back the same numbers, and the same part in the same place
pub read_one : {g : ℕ} {s : List ℕ} {low high v w f h p q : ℕ} {r t : List ℕ} {from to at : ℕ × ℕ}
    → Read g s low high v f p r from to → Read g s low high w h q t from at → (v ≡ w) × (f ≡ h) × (p ≡ q) × (r ≡ t) × (to ≡ at)
read_one {g} {s} {low} {high} {v} {w} {f} {h} {p} {q} {r} {t} {from} {to} {at} x y =
    let e = answer_same v w f h p q r t (sym x.answer ∙ y.answer) in (
      e.0,
      e.1,
      e.2,
      e.3,
      by_cases (dec_lt 0 f)
          (λ l. x.at_start l ∙ sym (y.at_start (omega arith)))
          (λ l.
          let a = x.at_end (omega arith) in
          let b = y.at_end (omega arith) in
          let n = ap length e.3 in
          pair_same to at (a.0 ∙ sym b.0) (omega arith)),
    )

-- ---- codes

-- more groups than are wanted make no difference
code_enough : (g h v : ℕ) → v ≤ g → v ≤ h → code_in g v ≡ code_in h v
unfolding code_in
code_enough zero zero v p q = refl
code_enough zero (suc h) v p q = simp (lt-ltb v 128 (omega arith))
code_enough (suc g) zero v p q = simp (lt-ltb v 128 (omega arith))
code_enough (suc g) (suc h) v p q =
    by_cases (dec_lt v 128)
    (λ l. simp (lt-ltb v 128 l))
    (λ l. simp (le-ltb v 128 (omega arith)) (ap (λ (r : List ℕ). (v % 128 + 128) ∷ r) (code_enough g h (v / 128) (omega arith) (omega arith))))

pub code_last : (v : ℕ) → v < 128 → code_of v ≡ v ∷ []
unfolding code_of code_in
code_last zero h = refl
code_last (suc v) h = simp (lt-ltb (suc v) 128 h)

pub code_more : (v : ℕ) → 128 ≤ v → code_of v ≡ (v % 128 + 128) ∷ code_of (v / 128)
unfolding code_of code_in
code_more zero h = absurd (omega arith)
code_more (suc v) h =
    simp (le-ltb (suc v) 128 h)
    (ap (λ (r : List ℕ). (suc v % 128 + 128) ∷ r) (code_enough v (suc v / 128) (suc v / 128) (omega arith) (omega arith)))

-- what a code begins with: a code is never empty
pub code_length_last : (v : ℕ) → v < 128 → code_length_of v ≡ 1
code_length_last v h = ap length (code_last v h)

pub code_length_more : (v : ℕ) → 128 ≤ v → code_length_of v ≡ suc (code_length_of (v / 128))
code_length_more v h = ap length (code_more v h)

pub code_some : (v : ℕ) → 1 ≤ code_length_of v
code_some v = by_cases (dec_lt v 128) (λ l. omega (arith, code_length_last v l)) (λ l. omega (arith, code_length_more v (omega arith)))

code_size_suc : (g v : ℕ) → v < 128 ^ suc g → code_length_of v ≤ suc g
code_size_suc zero v h = omega (arith, code_length_last v (omega (arith, pow-suc 128 0, pow-zero 128)))
code_size_suc (suc g) v h =
    by_cases (dec_lt v 128)
    (λ l. omega (arith, code_length_last v l))
    (λ l. omega (arith, code_length_more v (omega arith), code_size_suc g (v / 128) (omega (arith, pow-suc 128 (suc g)))))

pub code_size : (g v : ℕ) → 1 ≤ g → v < 128 ^ g → code_length_of v ≤ g
code_size zero v h l = absurd (omega arith)
code_size (suc g) v h l = code_size_suc g v l

followed_value : (b v k : ℕ) → 1 ≤ v → followed b (Value v k) ≡ Value (b - 128 + 128 * v) (k + 1)
unfolding followed
followed_value b zero k h = absurd (omega arith)
followed_value b (suc v) k h = refl

pub value_same : (v w k l : ℕ) → v ≡ w → k ≡ l → Value v k ≡ Value w l
value_same v w k l e f = cc

-- WHAT IS WRITTEN IS READ
pub code_read : (g v : ℕ) (rest : List ℕ) → code_length_of v ≤ g → raw_of g (code_of v ++ rest) ≡ Value v (code_length_of v)
code_read zero v rest h = absurd (omega (arith, code_some v))
code_read (suc g) v rest h =
    by_cases (dec_lt v 128)
    (λ l. ap (λ (c : List ℕ). raw_of (suc g) (c ++ rest)) (code_last v l)
    ∙ raw_last g v rest l
    ∙ value_same _ _ _ _ refl (sym (code_length_last v l)))
    (λ l.
    let m : 128 ≤ v = omega arith in
    ap (λ (c : List ℕ). raw_of (suc g) (c ++ rest)) (code_more v m)
    ∙ raw_more g (v % 128 + 128) (code_of (v / 128) ++ rest) (omega arith)
    ∙ ap (followed (v % 128 + 128)) (code_read g (v / 128) rest (omega (arith, code_length_more v m)))
    ∙ followed_value (v % 128 + 128) (v / 128) (code_length_of (v / 128)) (omega arith)
    ∙ value_same _ _ _ _ (omega arith) (omega (arith, code_length_more v m)))

pub number_code : (g v : ℕ) (rest : List ℕ) (low high : ℕ) → code_length_of v ≤ g → low ≤ v → v ≤ high
    → number_of g (code_of v ++ rest) low high ≡ accepted v rest
number_code g v rest low high h l u =
    number_accepted g (code_of v ++ rest) low high v (code_length_of v) (code_read g v rest h) l u
    ∙ ap (accepted v) (drop-append_seam (code_of v) rest)

abbrev Coded : ℕ → List ℕ → Raw → Type 0
Coded g s Cut = 0 ≤ 0
Coded g s Long = 0 ≤ 0
Coded g s (Value v k) = Bytes s → take k s ≡ code_of v

cons_same : (a b : ℕ) (r s : List ℕ) → a ≡ b → r ≡ s → ◌≡◌ {A = List ℕ} (a ∷ r) (b ∷ s)
cons_same a b r s e f = cc

coded_followed : (g b : ℕ) (s : List ℕ) (x : Raw) → 128 ≤ b → Coded g s x → Coded (suc g) (b ∷ s) (followed b x)
unfolding followed
coded_followed g b s Cut h o = o
coded_followed g b s Long h o = o
coded_followed g b s (Value zero k) h o = omega arith
coded_followed g b s (Value (suc v) k) h o = λ bytes.
    let w = b - 128 + 128 * suc v in
    let low : w % 128 + 128 ≡ b = omega (arith, bytes 0) in
    let high : w / 128 ≡ suc v = omega (arith, bytes 0) in
    ap (λ n. take n (b ∷ s)) (add-one k)
    ∙ cons_same _ _ _ _ (sym low) (o (λ i. bytes (suc i)) ∙ ap code_of (sym high))
    ∙ sym (code_more w (omega arith))

-- WHAT WAS READ IS WHAT WOULD BE WRITTEN
pub read_code : (g : ℕ) (s : List ℕ) (v k : ℕ) → Bytes s → raw_of g s ≡ Value v k → take k s ≡ code_of v
read_code g s v k h e =
    subst (Coded g s) e
    (raw_family Coded (λ s. omega arith) (λ g. omega arith) (λ g b s l h. sym (code_last b l)) (λ g b s l o. coded_followed g b s (raw_of g s) l o) g s) h

pub read_split : (g : ℕ) (s : List ℕ) (v k : ℕ) → Bytes s → raw_of g s ≡ Value v k → s ≡ code_of v ++ drop k s
read_split g s v k h e = sym (take-append-drop k s) ∙ ap (λ (r : List ℕ). r ++ drop k s) (read_code g s v k h e)

pub number_back : (g : ℕ) (s : List ℕ) (low high : ℕ) → Bytes s → (number_of g s low high).refusal ≡ 0
    → s ≡ code_of (number_of g s low high).value ++ (number_of g s low high).rest
number_back g s low high h =
    number_split g s low high (λ a. a.refusal ≡ 0 → s ≡ code_of a.value ++ a.rest)
    (λ e z. absurd (omega arith)) (λ e z. absurd (omega arith)) (λ v k e o z. absurd (omega arith)) (λ v k e l u z. read_split g s v k h e)

bytes_cons : (b : ℕ) (s : List ℕ) → b < 256 → Bytes s → Bytes (b ∷ s)
bytes_cons b s h f zero = h
bytes_cons b s h f (suc k) = f k

-- the bytes of a code are bytes
pub code_bytes : (v : ℕ) → Bytes (code_of v)
code_bytes v = in_groups (code_length_of v) v (omega arith)
  where
    in_groups : (g v : ℕ) → code_length_of v ≤ g → Bytes (code_of v)
    in_groups zero v h = absurd (omega (arith, code_some v))
    in_groups (suc g) v h =
        by_cases (dec_lt v 128)
        (λ l. subst Bytes (sym (code_last v l)) (bytes_cons v [] (omega arith) (λ k. omega arith)))
        (λ l. subst Bytes (sym (code_more v (omega arith)))
        (bytes_cons (v % 128 + 128) (code_of (v / 128)) (omega arith) (in_groups g (v / 128) (omega (arith, code_length_more v (omega arith))))))

-- ---- writing

module _ (v : ℕ) (out : List ℕ) (at : ℕ) where
  pub put_room : at + code_length_of v ≤ length out → put_of v out at ≡ record { buffer = sets out at (code_of v); count = code_length_of v }
  unfolding put_of
  put_room h = simp (le-leb (at + code_length_of v) (length out) h)

  pub put_none : length out < at + code_length_of v → put_of v out at ≡ record { buffer = out; count = 0 }
  unfolding put_of
  put_none h = simp (lt-leb (at + code_length_of v) (length out) h)

-- one run of bytes after another: the second starts where the first ended
pub sets_append : (out : List ℕ) (at : ℕ) (xs ys : List ℕ) → sets out at (xs ++ ys) ≡ sets (sets out at xs) (at + length xs) ys
sets_append out at [] ys = ap (λ n. sets out n ys) (sym (add-zero at))
sets_append out at (x ∷ xs) ys = sets_append (set out at x) (suc at) xs ys ∙ ap (λ n. sets (sets (set out at x) (suc at) xs) n ys) (omega arith)

-- a run of bytes from the start on, and what stays behind it
pub sets_front : (out xs : List ℕ) → length xs ≤ length out → sets out 0 xs ≡ xs ++ drop (length xs) out
sets_front out xs h =
    let z : 0 + length xs ≡ length xs = omega arith in
    sets-eq xs out 0 (omega arith) ∙ ap (λ n. xs ++ drop n out) z

-- A TURN OF A WRITER'S LOOP: where the codes still to be written begin with v's, a call of put leaves the others to be written
pub put_left : (all : List ℕ) (v : ℕ) (out : List ℕ) (at : ℕ) (left next : List ℕ) (count : ℕ)
    → all ≡ sets out at (code_of v ++ left) → at + length (code_of v ++ left) ≤ length out
    → put_of v out at ≡ record { buffer = next; count = count }
    → (all ≡ sets next (at + count) left) × (at + count + length left ≤ length next) × (length next ≡ length out) × (count ≡ code_length_of v)
put_left all v out at left next count so room e =
    let n = length-append (code_of v) left in
    let f = sym (put_room v out at (omega arith)) ∙ e in
    let b : sets out at (code_of v) ≡ next = ap (λ (x : Put). x.buffer) f in
    let c : code_length_of v ≡ count = ap (λ (x : Put). x.count) f in
    let m : length next ≡ length out = ap length (sym b) ∙ length-sets out at (code_of v) in
    (so ∙ sets_append out at (code_of v) left ∙ rw (b, c), omega arith, m, sym c)

-- ---- bytes

pub bytes_drop : (s : List ℕ) (k : ℕ) → Bytes s → Bytes (drop k s)
bytes_drop s k h i = rw get_or-drop (h (k + i))

pub bytes_rest : (g : ℕ) (s : List ℕ) (low high : ℕ) → Bytes s → Bytes (number_of g s low high).rest
bytes_rest g s low high h =
    number_split g s low high (λ a. Bytes a.rest) (λ e i. omega arith) (λ e i. omega arith) (λ v k e o i. omega arith)
    (λ v k e l u. bytes_drop s k h)
