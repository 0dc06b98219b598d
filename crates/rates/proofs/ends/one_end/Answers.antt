-- `ends::one_end` meets its contract: the climb found a closed walk, so there is a loop; or the first loop of tight rules tells whether there is one.
-- Assumes nothing.
use Rattle.std.proofs.Common.{refl, arith}
use Rattle.rates.specs.Rate.{paced, paced_tight, paced_none}
use Rattle.rates.proofs.ends.one_end.Goals as goal

pub returns-else-not-found : goal.returns-else-not-found
returns-else-not-found c = paced _ _ _ _ _ c.requires c.climb-found.ensures.reached (c.climb-found.ensures.some_loop c.if-not-found.false)

pub returns-in_err-tight_loop : goal.returns-in_err-tight_loop
returns-in_err-tight_loop c = rw c.from_residual.ensures (paced_none _ _ _ _ _ c.requires c.climb-found.ensures.reached _ _ _ _ c.in_err-tight_loop.ensures refl)

pub returns-in_ok-tight_loop : goal.returns-in_ok-tight_loop
returns-in_ok-tight_loop c =
    let some = c.in_ok-tight_loop.field-0.some in
    paced_tight _ _ _ _ _ c.requires c.climb-found.ensures.reached _ _ _ _ c.in_ok-tight_loop.ensures (λ e. omega arith)
