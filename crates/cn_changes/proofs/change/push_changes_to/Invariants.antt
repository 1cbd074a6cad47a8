use Rattle.std.proofs.Common.{◌≡◌, ◌++◌, flat_map}
use Rattle.std.specs.List.{range_with_len}
use Rattle.cn_changes.specs.Changes.{change_if_other}
use Rattle.cn_changes.proofs.change.push_changes_to.Given as goal

-- the changes so far
abbrev pub invariant-loop-response : goal.invariant-loop-response
invariant-loop-response l =
    l.changes.items ≡ l.initial.changes.items ++ flat_map (change_if_other l.table l.target) (range_with_len 0 l.response)
