use Rattle.std.proofs.Common.{◌≡◌, ◌++◌, flat_map, string_bytes, take}
use Rattle.cn_tree_text.specs.Text.{judgement_text}
use Rattle.cn_tree_text.proofs.lines.push_judged.Given as goal

-- what is judged so far
abbrev pub invariant-loop-entry : goal.invariant-loop-entry
invariant-loop-entry l = string_bytes l.text ≡ string_bytes l.initial.text ++ flat_map (judgement_text l.table l.sight) (take l.entry-index l.judged)
