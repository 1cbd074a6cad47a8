use Rattle.std.proofs.Common.{◌≡◌, ◌++◌, false, flat_map, get_or, string_bytes}
use Rattle.std.specs.List.{range_with_len}
use Rattle.cn_text.specs.Grid.{state_mark}
use Rattle.cn_text.proofs.grid.push_state_marks.Given as goal

-- the lines so far
abbrev pub invariant-loop-state : goal.invariant-loop-state
invariant-loop-state l = string_bytes l.text ≡ string_bytes l.initial.text ++ flat_map (λ q. state_mark l.table q (get_or l.reached_states q false)) (range_with_len 0 l.state)
