use Rattle.std.proofs.Common.{◌≡◌, ◌++◌, flat_map, string_bytes}
use Rattle.std.specs.List.{range_with_len}
use Rattle.cn_text.specs.Grid.{cell}
use Rattle.cn_text.proofs.grid.push_row.Given as goal

-- the cells so far
abbrev pub invariant-loop-state : goal.invariant-loop-state
invariant-loop-state l = string_bytes l.text ≡ string_bytes l.initial.text ++ flat_map (cell l.table l.operation.0) (range_with_len 0 l.state)
