use Rattle.std.proofs.Common.{◌≡◌, ◌++◌, Some, flat_map, take}
use Rattle.cn_changes.specs.Raises.{raise_to}
use Rattle.cn_changes.proofs.raises.push_each.Given as goal

-- the changes so far
abbrev pub invariant-loop-r : goal.invariant-loop-r
invariant-loop-r l =
    l.raises.items ≡ l.initial.raises.items
    ++ flat_map (λ r. raise_to l.number l.told.target (Some r.change.response) r.number) (take l.r-index l.r-items)
