use Rattle.std.proofs.Common.{◌≡◌, ◌++◌, flat_map, string_bytes}
use Rattle.std.specs.List.{range_with_len}
use Rattle.cn_tree_text.specs.Dot.{edge_dot}
use Rattle.cn_tree_text.proofs.dot.push_edges.Given as goal

-- the way so far
abbrev pub invariant-loop-place : goal.invariant-loop-place
invariant-loop-place l = string_bytes l.text ≡ string_bytes l.initial.text ++ flat_map (edge_dot l.plan l.process) (range_with_len 0 l.place)
