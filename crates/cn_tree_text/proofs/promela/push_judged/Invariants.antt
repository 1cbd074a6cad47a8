use Rattle.std.proofs.Common.{◌≡◌, ◌++◌, flat_map, string_bytes, take}
use Rattle.cn_tree_text.specs.Promela.{judged_promela}
use Rattle.cn_tree_text.proofs.promela.push_judged.Given as goal

-- what is judged so far
abbrev pub invariant-loop-entry : goal.invariant-loop-entry
invariant-loop-entry l = string_bytes l.text ≡ string_bytes l.initial.text ++ flat_map (judged_promela l.looks l.node) (take l.entry-index l.judged)
