-- The texts of rates: of one transition, and of all that share one.
--
--   exact_words_of p q, range_words_of p q p' q'     `rate P/Q exact`, `rate from P/Q to P/Q`
--   rate_words_of x          the one of these for the rate x, or `refused F at P`
--   rate_line x           the same as a line
--   FileRate s v x       x is the rate of transition v of the file s, or the refusal in reading it
--   RateReport s v r     THE PROMISE of `rate`: r holds the line
--   ListingOf s r        THE PROMISE of `list_rates`: the rates of all transitions of the file s; none where reading refuses it
--   flat x, told_rates xs, told_group a    what is told by what the code holds: of a rate, of rates, of a listing
--   alike_rates x y       two rates are the same, or both are refused alike
--   group_text a v        the line of the transitions that share the rate of v, where v is the lowest of them; else nothing
--   GroupOf a v r        THE PROMISE of `group`: r holds it
--   told s               the number that the digits s say, or one of 1,000 or more where they say one
--
-- Theorems: file_rate_unique, rate_report_unique, listing_unique, group_unique (one outcome each), listing_told_once (what is told of a listing says all), rate_first, listing_first (the first bytes decide).
use Rattle.std.specs.Prelude.{◌≡◌, refl, Bool, true, false, List, [], ◌∷◌, ◌++◌, ℕ, zero, suc, ◌+◌, ◌-◌, ◌*◌, ◌≤◌, ◌<◌, ltb, eqb, length, get_or, set, take, replicate, fold, map, ◌||◌}
use Rattle.std.proofs.Common.{sym, ap, ◌∙◌, subst, arith, add-one, get_or-set_same, get_or-set_other, lt-ltb, le-ltb}
use Rattle.std.proofs.Math.Logic.{by_cases}
use Rattle.std.proofs.Math.Decide.{dec_lt, ℕ_discrete}
use Rattle.std.proofs.lemmas.List.{take_all}
use Rattle.std.proofs.Math.ListN.{get_or-map}
use Rattle.std.proofs.lemmas.List.Folds.{list_any_more}
use Rattle.std.proofs.lemmas.List.Sums.{fold_more}
use Rattle.std.specs.List.{list_any}
use Rattle.sevens.specs.Sevens.{Bytes}
use Rattle.table.specs.declared.Table.{Table}
use Rattle.rulefile.specs.declared.FileRead.{FileRead}
use Rattle.rulefile.specs.File.{read_of}
use Rattle.rulefile.specs.Length.{longest}
use Rattle.rulefile.specs.First.{first_bytes}
use Rattle.rates.specs.Rate.{Rated, refused_rate, RateOf, rate_unique}
use Rattle.words.specs.declared.Text.{Text}
use Rattle.words.specs.Decimal.{ascii, pick, numbers, numbers_append}
use Rattle.words.specs.Puts.{Puts, puts_then, puts_same}
use Rattle.words.specs.Lines.{newline, ratio, refused_words_of}
use Rattle.words.specs.Held.{Holds, held_unique}
use Rattle.rates_text.specs.declared.Rated.{Rated as Held}
use Rattle.rates_text.specs.declared.Listing.{Listing as Given}

-- ------------------------------------------------------------------------------------------------------------------------------- one transition

abbrev pub exact_words_of : ℕ → ℕ → List ℕ
exact_words_of p q = ascii "rate " ++ (ratio p q ++ ascii " exact")

abbrev pub range_words_of : ℕ → ℕ → ℕ → ℕ → List ℕ
range_words_of p q p' q' = ascii "rate from " ++ (ratio p q ++ (ascii " to " ++ ratio p' q'))

abbrev pub rate_words_of : Rated → List ℕ
rate_words_of x =
    pick (ltb 0 x.refusal) (refused_words_of x.refusal x.place)
    (pick x.exact (exact_words_of x.high.p x.high.q) (range_words_of x.low.p x.low.q x.high.p x.high.q))

abbrev pub rate_line : Rated → List ℕ
rate_line x = rate_words_of x ++ newline

-- reading comes first
pub record ReadRate (f : FileRead) (v : ℕ) (x : Rated) : Type 0 where
  pub refused : 0 < f.refusal → x ≡ refused_rate f.refusal f.place
  pub accepted : f.refusal ≤ 0 → RateOf f.table v x

abbrev pub FileRate : List ℕ → ℕ → Rated → Type 0
FileRate s v x = ReadRate (read_of s) v x

pub record RateReport (s : List ℕ) (v : ℕ) (r : Text) : Type 0 where
  pub rate : Rated
  pub is_rate : FileRate s v rate
  pub is_held : Holds r (rate_line rate)

-- ------------------------------------------------------------------------------------------------------------------------------ all transitions

abbrev pub no_rate : Rated
no_rate = refused_rate 0 0

-- what is told of a file: its n, and the rates of 256 transitions
pub record Listing : Type 0 where
  pub n : ℕ
  pub rates : List Rated

-- what is told by what the code holds: the same numbers
abbrev pub flat : Held → Rated
flat x = record { refusal = x.refusal; place = x.place; exact = x.exact; low = x.low; high = x.high }

abbrev pub told_rates : List Held → List Rated
told_rates xs = map flat xs

abbrev pub told_group : Given → Listing
told_group a = record { n = a.n; rates = told_rates a.rates }

-- WHAT IS TOLD SAYS ALL: a listing is told as no other
abbrev held : Rated → Held
held r = record { refusal = r.refusal; place = r.place; exact = r.exact; low = r.low; high = r.high }

held_again : (xs : List Held) → map held (told_rates xs) ≡ xs
held_again [] = refl
held_again (x ∷ xs) = ap (λ ys. x ∷ ys) (held_again xs)

pub listing_told_once : (a b : Given) → told_group a ≡ told_group b → a ≡ b
listing_told_once a b e = same a b (ap (λ (l : Listing). l.n) e) (sym (held_again a.rates) ∙ ap (λ (l : Listing). map held l.rates) e ∙ held_again b.rates)
  where
    same : (a b : Given) → a.n ≡ b.n → a.rates ≡ b.rates → a ≡ b
    same a b f g i = record { n = f i; rates = g i }

-- 256 rates, of which the first n are the table's; past these the rate is refused 10
pub record ReadListing (f : FileRead) (r : Listing) : Type 0 where
  pub refused : 0 < f.refusal → r ≡ record { n = 0; rates = replicate 256 no_rate }
  pub size : length r.rates ≡ 256
  pub count : f.refusal ≤ 0 → r.n ≡ f.table.n
  pub own : f.refusal ≤ 0 → (v : ℕ) → v < 256 → RateOf f.table v (get_or r.rates v no_rate)

abbrev pub ListingOf : List ℕ → Listing → Type 0
ListingOf s r = ReadListing (read_of s) r

abbrev pub both : Bool → Bool → Bool
both a b = pick a b false

abbrev pub alike_rates : Rated → Rated → Bool
alike_rates x y =
    both (eqb x.refusal y.refusal)
    (both (eqb x.low.p y.low.p) (both (eqb x.low.q y.low.q) (both (eqb x.high.p y.high.p) (eqb x.high.q y.high.q))))

-- one of the first k transitions shares the rate of v
unfoldable pub earlier_than : List Rated → ℕ → ℕ → Bool
earlier_than xs v zero = false
earlier_than xs v (suc k) = pick (alike_rates (get_or xs k no_rate) (get_or xs v no_rate)) true (earlier_than xs v k)

abbrev pub member_if : ℕ → ℕ → Rated → Rated → List ℕ
member_if k n x y = pick (ltb k n) (pick (alike_rates x y) (k ∷ []) []) []

-- those of the first k transitions, and of n, that share the rate of v
unfoldable pub members_to : List Rated → ℕ → ℕ → ℕ → List ℕ
members_to xs n v zero = []
members_to xs n v (suc k) = members_to xs n v k ++ member_if k n (get_or xs k no_rate) (get_or xs v no_rate)

abbrev pub group_line_of : Listing → ℕ → List ℕ
group_line_of a v = rate_words_of (get_or a.rates v no_rate) ++ (ascii " of" ++ (numbers (members_to a.rates a.n v 256) ++ newline))

-- no more than 256 transitions are listed
abbrev pub group_text : Listing → ℕ → List ℕ
group_text a v = pick (ltb v a.n) (pick (ltb v 256) (pick (earlier_than a.rates v v) [] (group_line_of a v)) []) []

abbrev pub GroupOf : Listing → ℕ → Text → Type 0
GroupOf a v r = Holds r (group_text a v)

-- ------------------------------------------------------------------------------------------------------------------------- a transition's name

-- one digit more; no transition has a number from 1,000 on, so that what stands after does not matter
abbrev pub more_told : ℕ → ℕ → ℕ
more_told v d = pick (ltb v 1000) (v * 10 + (d - 48)) v

unfoldable pub told_to : List ℕ → ℕ → ℕ
told_to s zero = 0
told_to s (suc i) = more_told (told_to s i) (get_or s i 0)

abbrev pub told : List ℕ → ℕ
told s = told_to s (length s)

-- ------------------------------------------------------------------------------------------------------------------------------------- theorems

-- ONE RATE FOR A FILE
pub file_rate_unique : (s : List ℕ) (v : ℕ) (x y : Rated) → FileRate s v x → FileRate s v y → x ≡ y
file_rate_unique s v x y a b =
    by_cases (dec_lt 0 (read_of s).refusal)
    (λ l. a.refused l ∙ sym (b.refused l))
    (λ l. rate_unique (read_of s).table v x y (a.accepted (omega arith)) (b.accepted (omega arith)))

-- ONLY ONE OUTCOME
pub rate_report_unique : (s : List ℕ) (v : ℕ) (r r' : Text) → RateReport s v r → RateReport s v r' → r ≡ r'
rate_report_unique s v r r' a b = held_unique _ _ r r' (ap rate_line (file_rate_unique s v a.rate b.rate a.is_rate b.is_rate)) a.is_held b.is_held

pub group_unique : (a : Listing) (v : ℕ) (r s : Text) → GroupOf a v r → GroupOf a v s → r ≡ s
group_unique a v r s x y = held_unique _ _ r s refl x y

same_rates : (xs ys : List Rated) → length xs ≡ length ys → ((v : ℕ) → v < length xs → get_or xs v no_rate ≡ get_or ys v no_rate) → xs ≡ ys
same_rates [] [] e h = refl
same_rates [] (y ∷ ys) e h = absurd (omega arith)
same_rates (x ∷ xs) [] e h = absurd (omega arith)
same_rates (x ∷ xs) (y ∷ ys) e h = let a = h 0 (omega arith) in let b = same_rates xs ys (omega arith) (λ v l. h (suc v) (omega arith)) in cc (a, b)

same_listing : (r s : Listing) → r.n ≡ s.n → r.rates ≡ s.rates → r ≡ s
same_listing r s e f = ap (λ (n : ℕ). record { n = n; rates = r.rates }) e ∙ ap (λ (xs : List Rated). record { n = s.n; rates = xs }) f

pub listing_unique : (s : List ℕ) (r r' : Listing) → ListingOf s r → ListingOf s r' → r ≡ r'
listing_unique s r r' a b =
    by_cases (dec_lt 0 (read_of s).refusal)
    (λ l. a.refused l ∙ sym (b.refused l))
    (λ l.
    let z : (read_of s).refusal ≤ 0 = omega arith in
    same_listing r r' (a.count z ∙ sym (b.count z))
    (same_rates r.rates r'.rates (a.size ∙ sym b.size)
    (λ v i. let k : v < 256 = omega (arith, a.size) in rate_unique (read_of s).table v _ _ (a.own z v k) (b.own z v k))))

-- THE FIRST BYTES DECIDE, as they do for a report
pub rate_first : (s : List ℕ) (k : ℕ) → Bytes s → longest + 1 ≤ k → (v : ℕ) (r : Text) → RateReport (take k s) v r → RateReport s v r
rate_first s k b h v r a =
    record { rate = a.rate; is_rate = subst (λ (f : FileRead). ReadRate f v a.rate) (first_bytes s k b h) a.is_rate; is_held = a.is_held }

pub listing_first : (s : List ℕ) (k : ℕ) → Bytes s → longest + 1 ≤ k → (r : Listing) → ListingOf (take k s) r → ListingOf s r
listing_first s k b h r a = subst (λ (f : FileRead). ReadListing f r) (first_bytes s k b h) a

-- ------------------------------------------------------------------------------------------------------------------------- steps of the proofs

-- a rate that no call has given
abbrev unset : Held
unset = record { refusal = 0; place = 0; exact = false; low = record { p = 0; q = 0 }; high = record { p = 0; q = 0 } }

pub rate_told : (xs : List Held) (v : ℕ) → get_or (told_rates xs) v no_rate ≡ flat (get_or xs v unset)
rate_told xs v = get_or-map flat xs v unset

either_side : (a b : Bool) → (a || b) ≡ pick b true a
either_side true true = refl
either_side true false = refl
either_side false true = refl
either_side false false = refl

-- as one of the first k, for a chain over them
pub earlier_any : (xs : List Held) (v k : ℕ) → k ≤ length xs
    → list_any (λ x. alike_rates (flat x) (flat (get_or xs v unset))) (take k xs) ≡ earlier_than (told_rates xs) v k
unfolding earlier_than
earlier_any xs v zero b = refl
earlier_any xs v (suc k) b =
    let p = λ (x : Held). alike_rates (flat x) (flat (get_or xs v unset)) in
    let here = p (get_or xs k unset) in
    let there : here ≡ alike_rates (get_or (told_rates xs) k no_rate) (get_or (told_rates xs) v no_rate) = rw (rate_told xs k, rate_told xs v) refl in
    (rw add-one at (list_any_more p xs k unset (omega arith))) ∙ either_side (list_any p (take k xs)) here ∙ ap (λ e. pick here true e) (earlier_any xs v k (omega arith))
    ∙ ap (λ h. pick h true (earlier_than (told_rates xs) v k)) there

pub members_none : (xs : List Rated) (n v : ℕ) → [] ≡ numbers (members_to xs n v 0)
unfolding members_to
members_none xs n v = refl

pub members_next : (xs : List Rated) (n v k : ℕ) (other mine : Rated) {out o o' : List ℕ} {at p q : ℕ} → other ≡ get_or xs k no_rate → mine ≡ get_or xs v no_rate
    → Puts (numbers (members_to xs n v k)) out at o p → Puts (numbers (member_if k n other mine)) o p o' q → Puts (numbers (members_to xs n v (k + 1))) out at o' q
unfolding members_to
members_next xs n v k other mine t m a b =
    rw add-one (puts_same (sym (numbers_append (members_to xs n v k) (member_if k n (get_or xs k no_rate) (get_or xs v no_rate)))) (puts_then a (rw (t, m) at b)))

-- one rate more
pub rates_next : (t : Table) (xs : List Held) (v : ℕ) (x : Held) → length xs ≡ 256 → v < 256
    → ((w : ℕ) → w < v → RateOf t w (get_or (told_rates xs) w no_rate)) → RateOf t v (flat x) → (w : ℕ) → w < v + 1 → RateOf t w (get_or (told_rates (set xs v x)) w no_rate)
rates_next t xs v x size b h r w l =
    by_cases (ℕ_discrete w v)
    (λ e. rw (e, rate_told (set xs v x) v, get_or-set_same xs v x unset (omega arith)) r)
    (λ d. rw (rate_told (set xs v x) w, get_or-set_other xs v w x unset d, ← rate_told xs w) (h w (omega arith)))

-- how `group` ends
module _ (a : Listing) (v : ℕ) (r : Text) where
  pub group_past : a.n ≤ v → Holds r [] → GroupOf a v r
  group_past b h = simp (le-ltb v a.n b) h

  pub group_far : v < a.n → 256 ≤ v → Holds r [] → GroupOf a v r
  group_far b c h = simp (lt-ltb v a.n b, le-ltb v 256 c) h

  pub group_shown : v < a.n → v < 256 → earlier_than a.rates v v ≡ true → Holds r [] → GroupOf a v r
  group_shown b c e h = simp (lt-ltb v a.n b, lt-ltb v 256 c, e) h

-- what the digits say, as a fold of them
told_fold : (s : List ℕ) (i : ℕ) → i ≤ length s → fold more_told 0 (take i s) ≡ told_to s i
unfolding told_to
told_fold s zero b = refl
told_fold s (suc i) b = (rw add-one at (fold_more more_told 0 s i 0 (omega arith))) ∙ ap (λ v. more_told v (get_or s i 0)) (told_fold s i (omega arith))

pub told_all : (s : List ℕ) → fold more_told 0 s ≡ told s
told_all s = ap (λ (d : List ℕ). fold more_told 0 d) (sym (take_all (length s) s (omega arith))) ∙ told_fold s (length s) (omega arith)

-- as `rate` is told them
pub told_digits : (told (ascii "0") ≡ 0) × (told (ascii "17") ≡ 17) × (told (ascii "255") ≡ 255)
unfolding told_to
told_digits = (refl, refl, refl)
