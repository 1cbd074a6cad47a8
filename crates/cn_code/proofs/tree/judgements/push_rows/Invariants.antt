use Rattle.std.proofs.Common.{◌≡◌, ◌++◌, flat_map, string_bytes}
use Rattle.std.specs.List.{range_with_len}
use Rattle.cn_code.specs.Trees.{tree_row}
use Rattle.cn_code.proofs.tree.judgements.push_rows.Given as goal

-- the responses so far
abbrev pub invariant-loop-response : goal.invariant-loop-response
invariant-loop-response l = string_bytes l.text ≡ string_bytes l.initial.text ++ flat_map (tree_row l.language l.plan l.seat) (range_with_len 0 l.response)
