use Rattle.std.proofs.Common.{◌≡◌, ◌++◌, flat_map, string_bytes}
use Rattle.std.specs.List.{range_with_len}
use Rattle.cn_tree_text.specs.Promela.{row_promela}
use Rattle.cn_tree_text.proofs.promela.push_rows.Given as goal

-- the states so far
abbrev pub invariant-loop-state : goal.invariant-loop-state
invariant-loop-state l = string_bytes l.text ≡ string_bytes l.initial.text ++ flat_map (row_promela l.plan l.process l.node) (range_with_len 0 l.state)
