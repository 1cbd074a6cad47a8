use Rattle.std.proofs.Common.{◌≡◌, ◌++◌, flat_map, string_bytes}
use Rattle.std.specs.List.{range_with_len}
use Rattle.cn_code.specs.Trees.{tree_path}
use Rattle.cn_code.proofs.tree.places.push_places.Given as goal

-- the processes so far
abbrev pub invariant-loop-process : goal.invariant-loop-process
invariant-loop-process l = string_bytes l.text ≡ string_bytes l.initial.text ++ flat_map (tree_path l.language l.plan l.judges) (range_with_len 0 l.process)
