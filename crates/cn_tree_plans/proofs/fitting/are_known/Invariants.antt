use Rattle.std.proofs.Common.{ℕ, ◌<◌, map, slice_index}
use Rattle.cn_table.specs.declared.elements.Operation.{Operation}
use Rattle.cn_tree_plans.proofs.fitting.are_known.Given as goal

-- the operations so far
abbrev pub invariant-loop-operation : goal.invariant-loop-operation
invariant-loop-operation l = (k : ℕ) → k < l.operation-index
    → slice_index (map (λ (o : Operation). o.0) l.operations) k < l.limit
