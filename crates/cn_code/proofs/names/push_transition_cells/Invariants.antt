use Rattle.std.proofs.Common.{◌≡◌, ◌++◌, flat_map, string_bytes}
use Rattle.std.specs.List.{range_with_len}
use Rattle.cn_code.specs.Frame.{transition_cell}
use Rattle.cn_code.proofs.names.push_transition_cells.Given as goal

-- the states so far
abbrev pub invariant-loop-state : goal.invariant-loop-state
invariant-loop-state l = string_bytes l.text ≡ string_bytes l.initial.text ++ flat_map (transition_cell l.language l.table l.operation.0) (range_with_len 0 l.state)
