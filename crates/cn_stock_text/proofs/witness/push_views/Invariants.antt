use Rattle.std.proofs.Common.{◌≡◌, ◌++◌, flat_map, string_bytes, take}
use Rattle.cn_stock_text.specs.Witness.{view_lines}
use Rattle.cn_stock_text.proofs.witness.push_views.Given as goal

-- the groups so far
abbrev pub invariant-loop-group : goal.invariant-loop-group
invariant-loop-group l = string_bytes l.text ≡ string_bytes l.initial.text ++ flat_map (view_lines l.table l.choice) (take l.group-index l.groups)
