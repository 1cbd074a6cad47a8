use Rattle.std.proofs.Common.{◌≡◌, ◌++◌, flat_map, string_bytes}
use Rattle.std.specs.List.{range_with_len}
use Rattle.cn_code.specs.Trees.{tree_place}
use Rattle.cn_code.proofs.tree.places.push_path.Given as goal

-- the places so far
abbrev pub invariant-loop-place : goal.invariant-loop-place
invariant-loop-place l = string_bytes l.text ≡ string_bytes l.initial.text ++ flat_map (tree_place l.language l.plan l.judges l.process) (range_with_len 0 l.place)
