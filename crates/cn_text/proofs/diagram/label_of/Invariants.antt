use Rattle.std.proofs.Common.{◌≡◌, flat_map, string_bytes}
use Rattle.std.specs.List.{range_with_len}
use Rattle.cn_text.specs.Diagram.{line_dot}
use Rattle.cn_text.proofs.diagram.label_of.Given as goal

-- the lines of the operations so far
abbrev pub invariant-loop-operation : goal.invariant-loop-operation
invariant-loop-operation l = string_bytes l.label ≡ flat_map (line_dot l.table l.from.0 l.next.0) (range_with_len 0 l.operation)
