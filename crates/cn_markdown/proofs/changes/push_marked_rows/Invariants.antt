use Rattle.std.proofs.Common.{◌≡◌, ◌++◌, flat_map, string_bytes}
use Rattle.std.specs.List.{range_with_len}
use Rattle.cn_markdown.specs.Changes.{marked_row}
use Rattle.cn_markdown.proofs.changes.push_marked_rows.Given as goal

-- the rows so far
abbrev pub invariant-loop-operation : goal.invariant-loop-operation
invariant-loop-operation l =
    string_bytes l.text ≡ string_bytes l.initial.text ++ flat_map (marked_row l.table l.changes) (range_with_len 0 l.operation)
