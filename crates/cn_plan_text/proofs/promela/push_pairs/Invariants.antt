use Rattle.std.proofs.Common.{◌≡◌, ◌++◌, flat_map, string_bytes, take}
use Rattle.cn_plan_text.specs.Promela.{pair_promela}
use Rattle.cn_plan_text.proofs.promela.push_pairs.Given as goal

-- the pairs so far
abbrev pub invariant-loop-pair : goal.invariant-loop-pair
invariant-loop-pair l = string_bytes l.text ≡ string_bytes l.initial.text ++ flat_map (pair_promela l.node) (take l.pair-index l.pairs)
