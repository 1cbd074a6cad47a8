use Rattle.std.proofs.Common.{◌≡◌, ◌++◌, flat_map, take}
use Rattle.cn_changes.specs.Changes.{changes_to}
use Rattle.cn_changes.proofs.change.push_all_changes.Given as goal

-- the changes so far
abbrev pub invariant-loop-target : goal.invariant-loop-target
invariant-loop-target l =
    l.changes.items ≡ l.initial.changes.items ++ flat_map (changes_to l.table) (take l.target-index l.targets)
