use Rattle.std.proofs.Common.{◌≡◌, ◌++◌, codes, flat_map, string_bytes, take}
use Rattle.cn_markdown.specs.Unread.{marked_sight}
use Rattle.cn_markdown.proofs.unread.push_other_sights.Given as goal

-- what is written so far
abbrev pub invariant-loop-sight : goal.invariant-loop-sight
invariant-loop-sight l = string_bytes l.text ≡ string_bytes l.initial.text ++ flat_map (marked_sight l.table (codes "; ")) (take l.sight-index l.seen)
