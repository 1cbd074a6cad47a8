use Rattle.std.proofs.Common.{◌≡◌, ◌-◌, ◌++◌, flat_map, string_bytes}
use Rattle.std.specs.List.{range_with_len}
use Rattle.cn_tree_text.specs.Text.{member_line}
use Rattle.cn_tree_text.proofs.lines.push_members.Given as goal

-- the processes so far
abbrev pub invariant-loop-process : goal.invariant-loop-process
invariant-loop-process l = string_bytes l.text ≡ string_bytes l.initial.text ++ flat_map (member_line l.plan l.node) (range_with_len l.first (l.process - l.first))
