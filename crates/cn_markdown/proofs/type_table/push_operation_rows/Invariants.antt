use Rattle.std.proofs.Common.{◌≡◌, ◌++◌, flat_map, string_bytes}
use Rattle.std.specs.List.{range_with_len}
use Rattle.cn_markdown.specs.TypeTable.{operation_row}
use Rattle.cn_markdown.proofs.type_table.push_operation_rows.Given as goal

-- the rows so far
abbrev pub invariant-loop-operation : goal.invariant-loop-operation
invariant-loop-operation l = string_bytes l.text ≡ string_bytes l.initial.text ++ flat_map (operation_row l.table) (range_with_len 0 l.operation)
