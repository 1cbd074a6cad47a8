use Rattle.std.proofs.Common.{◌≡◌, ◌++◌, flat_map}
use Rattle.std.specs.List.{range_with_len}
use Rattle.cn_changes.specs.Changes.{targets_in}
use Rattle.cn_changes.proofs.targets.push_targets_of.Given as goal

-- the entries so far
abbrev pub invariant-loop-state : goal.invariant-loop-state
invariant-loop-state l = l.targets.items
    ≡ l.initial.targets.items ++ flat_map (targets_in l.table l.operation.0) (range_with_len 0 l.state)
