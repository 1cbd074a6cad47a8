use Rattle.std.proofs.Common.{◌≡◌, ◌++◌, flat_map, string_bytes}
use Rattle.std.specs.List.{range_with_len}
use Rattle.cn_text.specs.Diagram.{arrows_dot}
use Rattle.cn_text.proofs.diagram.push_all_arrows.Given as goal

-- the arrows from the states so far
abbrev pub invariant-loop-from : goal.invariant-loop-from
invariant-loop-from l = string_bytes l.text ≡ string_bytes l.initial.text ++ flat_map (arrows_dot l.table) (range_with_len 0 l.from)
