use Rattle.std.proofs.Common.{◌≡◌, flat_map}
use Rattle.std.specs.List.{range_with_len}
use Rattle.cn_unread_reasons.specs.MergedStates.{merged_if}
use Rattle.cn_unread_reasons.proofs.merged.merged_states.Given as goal

-- those of the states so far
abbrev pub invariant-loop-state : goal.invariant-loop-state
invariant-loop-state l = l.merged.items ≡ flat_map (merged_if l.class_of) (range_with_len 0 l.state)
