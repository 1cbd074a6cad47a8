use Rattle.std.proofs.Common.{◌≡◌, ◌++◌, flat_map, string_bytes}
use Rattle.std.specs.List.{range_with_len}
use Rattle.cn_tree_text.specs.Promela.{answer_promela}
use Rattle.cn_tree_text.proofs.promela.push_answer_rows.Given as goal

-- the states so far
abbrev pub invariant-loop-state : goal.invariant-loop-state
invariant-loop-state l = string_bytes l.text ≡ string_bytes l.initial.text ++ flat_map (answer_promela l.table l.operation.0 l.node) (range_with_len 0 l.state)
