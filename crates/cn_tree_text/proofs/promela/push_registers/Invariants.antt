use Rattle.std.proofs.Common.{◌≡◌, ◌++◌, flat_map, string_bytes}
use Rattle.std.specs.List.{range_with_len}
use Rattle.cn_tree_text.specs.Promela.{register_promela}
use Rattle.cn_tree_text.proofs.promela.push_registers.Given as goal

-- the registers so far
abbrev pub invariant-loop-team : goal.invariant-loop-team
invariant-loop-team l = string_bytes l.text ≡ string_bytes l.initial.text ++ flat_map (register_promela l.node) (range_with_len 0 l.team)
