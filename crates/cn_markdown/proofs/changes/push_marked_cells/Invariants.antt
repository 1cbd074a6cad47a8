use Rattle.std.proofs.Common.{◌≡◌, ◌++◌, flat_map, string_bytes}
use Rattle.std.specs.List.{range_with_len}
use Rattle.cn_markdown.specs.Changes.{marked_cell}
use Rattle.cn_markdown.proofs.changes.push_marked_cells.Given as goal

-- the cells so far
abbrev pub invariant-loop-state : goal.invariant-loop-state
invariant-loop-state l =
    string_bytes l.text ≡ string_bytes l.initial.text ++ flat_map (marked_cell l.table l.changes l.operation.0) (range_with_len 0 l.state)
