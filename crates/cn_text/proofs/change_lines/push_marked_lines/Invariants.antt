use Rattle.std.proofs.Common.{◌≡◌, ◌++◌, flat_map, string_bytes}
use Rattle.std.specs.List.{range_with_len}
use Rattle.cn_text.specs.ChangeLines.{marked_line}
use Rattle.cn_text.proofs.change_lines.push_marked_lines.Given as goal

-- the lines so far
abbrev pub invariant-loop-operation : goal.invariant-loop-operation
invariant-loop-operation l =
    string_bytes l.text ≡ string_bytes l.initial.text ++ flat_map (marked_line l.table l.changes) (range_with_len 0 l.operation)
