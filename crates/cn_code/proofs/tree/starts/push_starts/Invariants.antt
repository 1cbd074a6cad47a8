use Rattle.std.proofs.Common.{◌≡◌, ◌++◌, flat_map, string_bytes}
use Rattle.std.specs.List.{range_with_len}
use Rattle.cn_code.specs.Trees.{tree_start}
use Rattle.cn_code.proofs.tree.starts.push_starts.Given as goal

-- the nodes so far
abbrev pub invariant-loop-node : goal.invariant-loop-node
invariant-loop-node l = string_bytes l.text ≡ string_bytes l.initial.text ++ flat_map (tree_start l.language l.plan) (range_with_len 0 l.node)
