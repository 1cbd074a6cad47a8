use Rattle.std.proofs.Common.{◌≡◌, ◌++◌, flat_map, string_bytes, take}
use Rattle.cn_stock_text.specs.Joins.{join_line}
use Rattle.cn_stock_text.proofs.joins.push_joins.Given as goal

-- the joins so far
abbrev pub invariant-loop-join : goal.invariant-loop-join
invariant-loop-join l = string_bytes l.text ≡ string_bytes l.initial.text ++ flat_map (join_line l.table) (take l.join-index l.joins)
