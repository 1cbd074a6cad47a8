use Rattle.std.proofs.Common.{◌≡◌, ◌++◌, flat_map, string_bytes}
use Rattle.std.specs.List.{range_with_len}
use Rattle.cn_code.specs.Trees.{judgement_at}
use Rattle.cn_code.proofs.tree.judgements.push_judgements.Given as goal

-- the judgements so far
abbrev pub invariant-loop-number : goal.invariant-loop-number
invariant-loop-number l = string_bytes l.text ≡ string_bytes l.initial.text ++ flat_map (judgement_at l.language l.plan l.judges) (range_with_len 0 l.number)
