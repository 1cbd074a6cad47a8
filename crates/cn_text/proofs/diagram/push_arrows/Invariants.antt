use Rattle.std.proofs.Common.{◌≡◌, ◌++◌, flat_map, string_bytes}
use Rattle.std.specs.List.{range_with_len}
use Rattle.cn_text.specs.Diagram.{arrow_dot}
use Rattle.cn_text.proofs.diagram.push_arrows.Given as goal

-- the arrows to the states so far
abbrev pub invariant-loop-next : goal.invariant-loop-next
invariant-loop-next l = string_bytes l.text ≡ string_bytes l.initial.text ++ flat_map (arrow_dot l.table l.from.0) (range_with_len 0 l.next)
