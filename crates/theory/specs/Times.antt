-- The times of occurrences: where every loop turns they are one, and the least that keep every rule.
--
--   times_least      they are no later than any times that keep every rule
--   times_unique     so there is one set of times
--   timed_unique     and one buffer that holds them
use Rattle.std.specs.Prelude.{◌≡◌, List, ℕ, zero, suc, ◌*◌, ◌-◌, ◌/◌, ◌%◌, ◌≤◌, ◌<◌, get_or}
use Rattle.std.proofs.Common.{sym, ◌∙◌, subst, ⊎_elim, arith, le_antisymm, mul-le-mul_right, mod-lt, div-add-mod'}
use Rattle.std.proofs.Math.Logic.{by_cases}
use Rattle.std.proofs.Math.Decide.{ℕ_discrete, dec_lt}
use Rattle.model.specs.Shape.{Shape, Fits}
use Rattle.model.specs.Loop.{Live}
use Rattle.model.specs.Times.{Cause, AreTimes, Timed}
use Rattle.model.specs.Thesis.{Timing}
use Rattle.theory.specs.Schedule.{same_list}
use Rattle.theory.specs.Rank.{ZeroRanks, live_ranks}

module _ (S : Shape) (D : ℕ → ℕ) (N n : ℕ) (fits : Fits S n) where
  -- by the occurrence, and within one by a rank along the rules of offset 0
  module _ (rank : List ℕ) (ranks : ZeroRanks S rank) (T : ℕ → ℕ → ℕ) (are : AreTimes S D N n T) (t : ℕ → ℕ → ℕ) (timing : Timing S D N n t) where
    step : (i v : ℕ) → i < N → v < n → ((j u : ℕ) → j < i → u < n → T j u ≤ t j u)
        → ((u : ℕ) → u < n → get_or rank u 0 < get_or rank v 0 → T i u ≤ t i u) → T i v ≤ t i v
    step i v a b earlier lower = ⊎_elim (λ z. omega arith) by_cause (are i v a b).no_later
      where
        by_cause : Cause S D T i v → T i v ≤ t i v
        by_cause c =
            let r = c.rule in
            let u_below = (fits r c.acts.is_rule).0 in
            let source : T (i - S.offset r) (S.source r) ≤ t (i - S.offset r) (S.source r) =
            by_cases (ℕ_discrete (S.offset r) 0)
            (λ z. let same : i - S.offset r ≡ i = omega arith in rw same (lower (S.source r) u_below (rw c.acts.target at (ranks r c.acts.is_rule z))))
            (λ d. earlier (i - S.offset r) (S.source r) (omega (arith, c.acts.reached)) u_below) in
            omega (arith, c.exact, timing i v r a b c.acts)

    in_row : (i : ℕ) → i < N → ((j u : ℕ) → j < i → u < n → T j u ≤ t j u) → (k v : ℕ) → v < n → get_or rank v 0 < k → T i v ≤ t i v
    in_row i a earlier zero v b l = absurd (omega arith)
    in_row i a earlier (suc k) v b l = step i v a b earlier (λ u c m. in_row i a earlier k u c (omega arith))

    upto : (k i v : ℕ) → i < k → i < N → v < n → T i v ≤ t i v
    upto zero i v l a b = absurd (omega arith)
    upto (suc k) i v l a b = in_row i a (λ j u m c. upto k j u (omega arith) (omega arith) c) (suc (get_or rank v 0)) v b (omega arith)

    least : (i v : ℕ) → i < N → v < n → T i v ≤ t i v
    least i v a b = upto (suc i) i v (omega arith) a b

  -- (2.2) THE TIMES ARE THE LEAST TIMING FUNCTION. Take the rule that causes a time: its source's occurrence is earlier, or of lower rank, and by
  -- induction no later than in t; so what t owes to that rule is no less.
  pub times_least : Live S → (T t : ℕ → ℕ → ℕ) → AreTimes S D N n T → Timing S D N n t → (i v : ℕ) → i < N → v < n → T i v ≤ t i v
  times_least live T t are timing i v a b = let (rank, ranks) = live_ranks S n fits live in least rank ranks T are t timing i v a b

  pub times_timing : (T : ℕ → ℕ → ℕ) → AreTimes S D N n T → Timing S D N n T
  times_timing T are i v r a b h = (are i v a b).late_enough r h

  -- ONLY ONE
  pub times_unique : Live S → (T T' : ℕ → ℕ → ℕ) → AreTimes S D N n T → AreTimes S D N n T' → (i v : ℕ) → i < N → v < n → T i v ≡ T' i v
  times_unique live T T' are are' i v a b =
      le_antisymm (times_least live T T' are (times_timing T' are') i v a b) (times_least live T' T are' (times_timing T are) i v a b)

  -- ONE BUFFER: place k is occurrence k / n of transition k % n, or past the times
  pub timed_unique : Live S → 0 < n → (out₀ out out' : List ℕ) → Timed S D N n out₀ out → Timed S D N n out₀ out' → out ≡ out'
  timed_unique live pos out₀ out out' a b = same_list out out' (a.size ∙ sym b.size) (λ k l. each k)
    where
      each : (k : ℕ) → get_or out k 0 ≡ get_or out' k 0
      each k =
          by_cases (dec_lt k (N * n))
          (λ l.
          let e = div-add-mod' k n in
          let v = mod-lt k pos in
          let i : k / n < N = by_cases (dec_lt (k / n) N) (λ h. h) (λ h. absurd (omega (arith, mul-le-mul_right n (below (k / n) N h), e))) in
          subst (λ z. get_or out z 0 ≡ get_or out' z 0) e
          (a.rows (k / n) (k % n) i v ∙ times_unique live a.T b.T a.times b.times (k / n) (k % n) i v ∙ sym (b.rows (k / n) (k % n) i v)))
          (λ l. a.rest k (below k (N * n) l) ∙ sym (b.rest k (below k (N * n) l)))
        where
          below : (x y : ℕ) → ¬ (x < y) → y ≤ x
          below x y h = omega arith
