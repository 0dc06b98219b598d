-- `handed::put_columns` meets its contract. The loop's invariant: each column has its first r values in its lowest places, and its length. Assumes nothing.
use Rattle.std.proofs.Common.{◌≡◌}
use Rattle.table.specs.Form.{rule_of}
use Rattle.handed.specs.Columns.{put_to, delay_in_of, known_in_of}
use Rattle.handed.proofs.put_columns.Given as goal

abbrev pub invariant-loop-r : goal.invariant-loop-r
invariant-loop-r l = (l.source ≡ put_to (λ k. (rule_of l.t k).source) l.initial.source l.r) × (l.target ≡ put_to (λ k. (rule_of l.t k).target) l.initial.target l.r) × (l.offset ≡ put_to (λ k. (rule_of l.t k).offset) l.initial.offset l.r) × (l.delay ≡ put_to (λ k. delay_in_of (rule_of l.t k).delay) l.initial.delay l.r) × (l.known ≡ put_to (λ k. known_in_of (rule_of l.t k).delay) l.initial.known l.r)
