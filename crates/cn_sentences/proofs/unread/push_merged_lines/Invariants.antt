use Rattle.std.proofs.Common.{◌≡◌, ◌++◌, flat_map, string_bytes, take}
use Rattle.cn_sentences.specs.Unread.{merged_line}
use Rattle.cn_sentences.proofs.unread.push_merged_lines.Given as goal

-- the lines so far
abbrev pub invariant-loop-state : goal.invariant-loop-state
invariant-loop-state l = string_bytes l.text ≡ string_bytes l.initial.text ++ flat_map (merged_line l.given l.table) (take l.state-index l.merged)
