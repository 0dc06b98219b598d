-- WHAT READING HANDS BACK, for every file: a table, or a refusal for one of the paper's reasons, of which what is told is what the promise says (`read_of`).
--
--   refusal w p                   == the refusal for the reason w at the place p
--   ToldNum, ToldRule, ToldFile   == some result of the code is told so: of a number, of a rule, of a file
--   picked                        what holds of both holds of the one picked
--
-- Theorem: file_exists.
use Rattle.std.specs.Prelude.{◌≡◌, refl, Bool, true, false, Result, Ok, Err, List, ℕ, zero, suc, ◌+◌, ◌-◌, ◌<◌, length, ltb}
use Rattle.std.proofs.Common.{subst}
use Rattle.std.proofs.Math.Path.{subst⁻¹}
use borrow.Author.Tests.{lt-ltb}
use Rattle.refusals.specs.declared.Refusal.{Refusal}
use Rattle.refusals.specs.declared.Why.{Why}
use Rattle.refusals.specs.declared.Why.TheVariants.{Cut, Long, Range, Tail}
use Rattle.refusals.specs.Number.{number_of, number_positive}
use Rattle.sevens.specs.Sevens.{pick}
use Rattle.table.specs.declared.Rule.{Rule}
use Rattle.table.specs.declared.Table.{Table}
use Rattle.table.specs.Limits.{min_n, max_n, max_m, max_offset, max_delay}
use Rattle.table.specs.Form.{sized, with_rule}
use Rattle.rulefile.specs.declared.FileRead.{FileRead}
use Rattle.rulefile.specs.File.{Num, num_told, num_at, and_then, delay_meant, RuleRead, rule_bad_of, rule_told, rule_at_of, refused_read, told_read, rules_from_of, read_of}
use Rattle.rulefile.specs.Steps.{num_cases, then_err, then_ok}

abbrev pub refusal : Why → ℕ → Refusal
refusal w p = record { why = w; place = p }

-- what holds of both holds of the one picked
pub picked : {A : Type 0} (P : A → Type 0) (c : Bool) (x y : A) → P x → P y → P (pick c x y)
picked P true x y a b = a
picked P false x y a b = b

-- ---- a number

abbrev ToldNum : Num → Type 0
ToldNum x = (r : Result (ℕ × ℕ) Refusal) × (num_told r ≡ x)

number : (s : List ℕ) (at low high : ℕ) → ToldNum (num_at s at low high)
number s at low high =
    num_cases s at low high ToldNum (λ e. (Err (refusal Cut _), refl)) (λ e. (Err (refusal Long _), refl)) (λ v k e h. (Err (refusal Range _), refl))
    (λ v k e l u. (Ok (v, _), refl))

-- what holds of every refusal, and of going on with every number, holds of a stage
stage : {A : Type 0} (P : A → Type 0) (bad f : ℕ → ℕ → A) (x : Num) → ToldNum x → ((w : Why) (p : ℕ) → P (bad (number_of w) p)) → ((v next : ℕ) → P (f v next))
    → P (and_then bad x f)
stage P bad f x (Err e, same) stop go = subst⁻¹ P (then_err bad f x e.why e.place same) (stop e.why e.place)
stage P bad f x (Ok y, same) stop go = subst⁻¹ P (then_ok bad f x y.0 y.1 same) (go y.0 y.1)

-- ---- a rule

abbrev ToldRule : RuleRead → Type 0
ToldRule x = (r : Result (Rule × ℕ) Refusal) × (rule_told r ≡ x)

rule : (s : List ℕ) (at n : ℕ) → ToldRule (rule_at_of s at n)
unfolding rule_at_of
rule s at n =
    stage ToldRule rule_bad_of _ _ (number s at 0 (n - 1)) bad (λ source a.
    stage ToldRule rule_bad_of _ _ (number s a 0 (n - 1)) bad (λ target b.
    stage ToldRule rule_bad_of _ _ (number s b 0 max_offset) bad (λ offset c.
    stage ToldRule rule_bad_of _ _ (number s c 0 (max_delay + 1)) bad (λ code next.
    (Ok (record { source = source; target = target; offset = offset; delay = delay_meant code }, next), refl)))))
  where
    bad : (w : Why) (p : ℕ) → ToldRule (rule_bad_of (number_of w) p)
    bad w p = (Err (refusal w p), refl)

-- ---- a file

abbrev pub ToldFile : FileRead → Type 0
ToldFile x = (r : Result Table Refusal) × (told_read r ≡ x)

bad_file : (w : Why) (p : ℕ) → ToldFile (refused_read (number_of w) p)
bad_file w p = (Err (refusal w p), refl)

-- what follows a rule x, or its refusal, is told so
abbrev ToldAfter : List ℕ → ℕ → Table → ℕ → ℕ → RuleRead → Type 0
ToldAfter s n t r left x = ToldFile (pick (ltb 0 x.refusal) (refused_read x.refusal x.place) (rules_from_of s n (with_rule t r x.rule) x.next (r + 1) left))

after : (s : List ℕ) (n : ℕ) (t : Table) (r left : ℕ) (x : RuleRead) → ToldRule x → ((y : Rule) (next : ℕ) → ToldFile (rules_from_of s n (with_rule t r y) next (r + 1) left))
    → ToldAfter s n t r left x
after s n t r left x (Err e, same) more = subst (ToldAfter s n t r left) same (simp (lt-ltb 0 (number_of e.why) (number_positive e.why)) (bad_file e.why e.place))
after s n t r left x (Ok y, same) more = subst (ToldAfter s n t r left) same (more y.0 y.1)

rules : (s : List ℕ) (n : ℕ) (t : Table) (at r left : ℕ) → ToldFile (rules_from_of s n t at r left)
unfolding rules_from_of
rules s n t at r zero = picked ToldFile (ltb at (length s)) _ _ (bad_file Tail at) (Ok t, refl)
rules s n t at r (suc left) = after s n t r left (rule_at_of s at n) (rule s at n) (λ y next. rules s n (with_rule t r y) next (r + 1) left)

-- A FILE: a table or a refusal
pub file_exists : (s : List ℕ) → ToldFile (read_of s)
unfolding read_of
file_exists s =
    stage ToldFile refused_read _ _ (number s 0 min_n max_n) bad_file (λ n at.
    stage ToldFile refused_read _ _ (number s at 0 max_m) bad_file (λ m from. rules s n (sized n m) from 0 m))
