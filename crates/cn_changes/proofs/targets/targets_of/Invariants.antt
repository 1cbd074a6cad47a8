use Rattle.std.proofs.Common.{◌≡◌, flat_map}
use Rattle.std.specs.List.{range_with_len}
use Rattle.cn_changes.specs.Changes.{targets_of_operation}
use Rattle.cn_changes.proofs.targets.targets_of.Given as goal

-- the entries so far
abbrev pub invariant-loop-operation : goal.invariant-loop-operation
invariant-loop-operation l = l.targets.items ≡ flat_map (targets_of_operation l.table) (range_with_len 0 l.operation)
