use Rattle.std.proofs.Common.{◌≡◌, ◌++◌, flat_map, string_bytes}
use Rattle.std.specs.List.{range_with_len}
use Rattle.cn_code.specs.Trees.{tree_cell}
use Rattle.cn_code.proofs.tree.judgements.push_cells.Given as goal

-- what is seen so far
abbrev pub invariant-loop-saw : goal.invariant-loop-saw
invariant-loop-saw l = string_bytes l.text ≡ string_bytes l.initial.text ++ flat_map (tree_cell l.plan l.seat l.response.0) (range_with_len 0 l.saw)
