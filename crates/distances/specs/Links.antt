-- The rules into each transition in lists, for distances: of those that stand one after the other and come from the same transition only the last is in the list.
--
--   SameSource source q r          == rules q and r come from the same transition
--   Before source next r last x    == x stands before rule r in its list, where last says the last rule into its target that was linked: 1 more than it, or 0
--   linked_back                    one rule more
use Rattle.std.specs.Prelude.{◌≡◌, ◌⊎◌, List, ℕ, ◌+◌, ◌-◌, ◌<◌, get_or, set}
use Rattle.std.proofs.Common.{sym, ◌∙◌, ⊎_elim}
use Rattle.peel.specs.Linked.{Linked, linked_last, linked_past}

-- rules q and r come from the same transition
abbrev pub SameSource : List ℕ → ℕ → ℕ → Type 0
SameSource source q r = get_or source q 0 ≡ get_or source r 0

-- x stands before rule r in its list: the last one; or, where that is rule r - 1 and comes from the same transition, what stands before that one
abbrev pub Before : List ℕ → List ℕ → ℕ → ℕ → ℕ → Type 0
Before source next r last x = (x ≡ last) ⊎ ((last ≡ r) × (0 < r) × (x ≡ get_or next (r - 1) 0) × SameSource source (r - 1) r)

-- one rule more
pub linked_back : (source target : List ℕ) (j : ℕ) (head next : List ℕ) → Linked (SameSource source) target j head next → j < 2048 → (v x y : ℕ) → v ≡ get_or target j 0 → v < 256 → y ≡ j + 1
    → Before source next j (get_or head v 0) x → Linked (SameSource source) target (j + 1) (set head v y) (set next j x)
linked_back source target j head next h room v x y ev low ey b =
    ⊎_elim
    (λ e. linked_last target j head next h room v x y ev low ey e)
    (λ e. linked_past target j head next h room v x y ev low ey j (sym e.0) e.1 e.2 e.3 (λ q r c d. c ∙ d))
    b
