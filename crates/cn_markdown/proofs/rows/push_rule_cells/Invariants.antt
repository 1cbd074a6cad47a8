use Rattle.std.proofs.Common.{◌≡◌, ◌++◌, flat_map, string_bytes}
use Rattle.std.specs.List.{range_with_len}
use Rattle.cn_markdown.specs.Rows.{rule_cell}
use Rattle.cn_markdown.proofs.rows.push_rule_cells.Given as goal

-- the cells so far
abbrev pub invariant-loop-column : goal.invariant-loop-column
invariant-loop-column l = string_bytes l.text ≡ string_bytes l.initial.text ++ flat_map (rule_cell l.others) (range_with_len 0 l.column)
