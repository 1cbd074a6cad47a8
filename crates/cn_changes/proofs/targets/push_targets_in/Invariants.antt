use Rattle.std.proofs.Common.{◌≡◌, ◌++◌, [], ◌∷◌, flat_map}
use Rattle.std.specs.List.{range_with_len}
use Rattle.cn_changes.specs.Changes.{target}
use Rattle.cn_changes.proofs.targets.push_targets_in.Given as goal

-- the next states so far
abbrev pub invariant-loop-next : goal.invariant-loop-next
invariant-loop-next l = l.targets.items
    ≡ l.initial.targets.items ++ flat_map (λ next. target l.operation.0 l.state.0 next ∷ []) (range_with_len 0 l.next)
