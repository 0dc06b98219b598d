-- A test of every number below m.
--
--   Fails A m         == a number below m at which A fails
--   First A m         == the first number below m at which A holds
--   all_or_fails      A holds of all, or fails of one
--   none_or_first     A holds of none, or there is a first
use Rattle.std.specs.Prelude.{◌⊎◌, ℕ, zero, suc, ◌<◌}
use Rattle.std.proofs.Common.{inl, inr, ⊎_elim, arith}
use Rattle.std.proofs.Math.Logic.{by_cases}
use Rattle.std.proofs.Math.Decide.{ℕ_discrete}

-- a number below m at which A fails
pub record Fails (A : ℕ → Type 0) (m : ℕ) : Type 0 where
  pub at : ℕ
  pub at_below : at < m
  pub fails : ¬ (A at)

-- the first number below m at which A holds
pub record First (A : ℕ → Type 0) (m : ℕ) : Type 0 where
  pub at : ℕ
  pub at_below : at < m
  pub holds : A at
  pub before : (i : ℕ) → i < at → ¬ (A i)

module _ (A : ℕ → Type 0) (dec : (i : ℕ) → Dec (A i)) where
  pub all_or_fails : (m : ℕ) → ((i : ℕ) → i < m → A i) ⊎ Fails A m
  all_or_fails zero = inl (λ i h. absurd (omega arith))
  all_or_fails (suc m) =
      ⊎_elim
      (λ all. by_cases (dec m) (λ a. inl (λ i h. last all a i h)) (λ n. inr (record { at = m; at_below = omega arith; fails = n })))
      (λ f. inr (record { at = f.at; at_below = omega (arith, f.at_below); fails = f.fails }))
      (all_or_fails m)
    where
      last : ((i : ℕ) → i < m → A i) → A m → (i : ℕ) → i < suc m → A i
      last all a i h = by_cases (ℕ_discrete i m) (λ e. rw e a) (λ d. all i (omega arith))

  pub none_or_first : (m : ℕ) → ((i : ℕ) → i < m → ¬ (A i)) ⊎ First A m
  none_or_first zero = inl (λ i h. absurd (omega arith))
  none_or_first (suc m) =
      ⊎_elim
      (λ none. by_cases (dec m) (λ a. inr (record { at = m; at_below = omega arith; holds = a; before = none })) (λ n. inl (last none n)))
      (λ f. inr (record { at = f.at; at_below = omega (arith, f.at_below); holds = f.holds; before = f.before }))
      (none_or_first m)
    where
      last : ((i : ℕ) → i < m → ¬ (A i)) → ¬ (A m) → (i : ℕ) → i < suc m → ¬ (A i)
      last none n i h = by_cases (ℕ_discrete i m) (λ e. rw e n) (λ d. none i (omega arith))
