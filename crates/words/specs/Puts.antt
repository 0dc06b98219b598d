-- Putting bytes into a buffer one after the other. What has no room is left out, so that putting asks nothing of its caller.
--
--   Puts s out at after next     the bytes s were put into `out` from the place `at` on: `after` is the buffer then, and `next` the place behind them
--
-- Laws: puts_none, puts_full, puts_then (one run after another), puts_length, puts_same, puts_next (a turn of a loop), puts_whole (what a fresh buffer holds).
use Rattle.std.specs.Prelude.{◌≡◌, refl, List, [], ◌∷◌, ◌++◌, ℕ, zero, suc, ◌+◌, ◌-◌, ◌≤◌, ◌<◌, min, max, length, get_or, set, take, drop, replicate}
use Rattle.std.proofs.Common.{ap, sym, ◌∙◌, arith, add-zero, length-append, take-suc, add-one}
use Rattle.std.proofs.Math.Logic.{by_cases}
use Rattle.std.proofs.Math.Decide.{dec_lt}
use Rattle.std.proofs.lemmas.List.{length-replicate}
use Rattle.std.proofs.lemmas.List.Edits.{sets, sets-eq}
use Rattle.std.proofs.Math.Seq.{length-sets, set_out, drop-nil}

pub record Puts (s out : List ℕ) (at : ℕ) (after : List ℕ) (next : ℕ) : Type 0 where
  pub bytes : after ≡ sets out at s
  pub place : next ≡ min (at + length s) (max at (length out))

-- past the end of the buffer nothing is put
sets_out : (out : List ℕ) (at : ℕ) (s : List ℕ) → length out ≤ at → sets out at s ≡ out
sets_out out at [] h = refl
sets_out out at (b ∷ s) h = ap (λ o. sets o (suc at) s) (set_out out at b h) ∙ sets_out out (suc at) s (omega arith)

sets_append : (out : List ℕ) (at : ℕ) (s t : List ℕ) → sets out at (s ++ t) ≡ sets (sets out at s) (at + length s) t
sets_append out at [] t = ap (λ n. sets out n t) (sym (add-zero at))
sets_append out at (x ∷ s) t = sets_append (set out at x) (suc at) s t ∙ ap (λ n. sets (sets (set out at x) (suc at) s) n t) (omega arith)

pub puts_none : (out : List ℕ) (at : ℕ) → Puts [] out at out at
puts_none out at = record { bytes = refl; place = omega arith }

-- one byte, where there is no room
pub puts_full : (b : ℕ) (out : List ℕ) (at : ℕ) → length out ≤ at → Puts (b ∷ []) out at out at
puts_full b out at h = record { bytes = sym (set_out out at b h); place = omega arith }

-- ONE AFTER ANOTHER
pub puts_then : {s t out o o' : List ℕ} {at p q : ℕ} → Puts s out at o p → Puts t o p o' q → Puts (s ++ t) out at o' q
puts_then {s} {t} {out} {o} {o'} {at} {p} {q} a b =
    let size : length o ≡ length out = ap length a.bytes ∙ length-sets out at s in
    record {
      bytes =
          by_cases (dec_lt (length out) (at + length s))
          (λ l.
          b.bytes ∙ sets_out o p t (omega (arith, a.place)) ∙ a.bytes
          ∙ sym (sets_append out at s t ∙ sets_out (sets out at s) (at + length s) t (omega (arith, length-sets out at s))))
          (λ l.
          let e : p ≡ at + length s = omega (arith, a.place) in
          b.bytes ∙ ap (λ n. sets o n t) e ∙ ap (λ l. sets l (at + length s) t) a.bytes ∙ sym (sets_append out at s t));
      place = omega (arith, a.place, b.place, length-append s t);
    }

-- the buffer keeps its length
pub puts_length : {s out o : List ℕ} {at p : ℕ} → Puts s out at o p → length o ≡ length out
puts_length {s} {out} {o} {at} {p} a = ap length a.bytes ∙ length-sets out at s

-- s may be written otherwise
pub puts_same : {s t out o : List ℕ} {at p : ℕ} → s ≡ t → Puts s out at o p → Puts t out at o p
puts_same e a = rw e at a

-- a turn of a loop over a list
pub puts_next : (f : List ℕ → List ℕ) (xs : List ℕ) (i : ℕ) {out o o' : List ℕ} {at p q : ℕ} → ((x : ℕ) → f (take i xs ++ (x ∷ [])) ≡ f (take i xs) ++ f (x ∷ []))
    → i < length xs → Puts (f (take i xs)) out at o p → Puts (f (get_or xs i 0 ∷ [])) o p o' q → Puts (f (take (i + 1) xs)) out at o' q
puts_next f xs i e b a c = puts_same (sym (rw (add-one, take-suc xs i 0 b) (e (get_or xs i 0)))) (puts_then a c)

zeros_left : (n k : ℕ) → drop k (replicate {A = ℕ} n 0) ≡ replicate (n - k) 0
zeros_left zero k = let e : 0 ≡ 0 - k = omega arith in drop-nil k ∙ ap (λ (m : ℕ). replicate m 0) e
zeros_left (suc n) zero = let e : suc n ≡ suc n - 0 = omega arith in ap (λ (m : ℕ). replicate m 0) e
zeros_left (suc n) (suc k) = let e : n - k ≡ suc n - suc k = omega arith in zeros_left n k ∙ ap (λ (m : ℕ). replicate m 0) e

-- what was put into a buffer of zeros that has room for it
pub puts_whole : (s o : List ℕ) (room p : ℕ) → Puts s (replicate room 0) 0 o p → p < room → (length s ≤ room) × (p ≡ length s) × (o ≡ s ++ replicate (room - length s) 0)
puts_whole s o room p a h =
    let full = length-replicate {A = ℕ} room 0 in
    let fits : length s ≤ room = omega (arith, a.place) in
    let front : 0 + length s ≡ length s = omega arith in (
      fits,
      omega (arith, a.place),
      a.bytes ∙ sets-eq s (replicate room 0) 0 (omega arith) ∙ ap (λ (n : ℕ). s ++ drop n (replicate room 0)) front ∙ ap (λ l. s ++ l) (zeros_left room (length s)),
    )
