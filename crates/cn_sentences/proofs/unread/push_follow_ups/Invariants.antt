use Rattle.std.proofs.Common.{◌≡◌, ◌++◌, flat_map, string_bytes, take}
use Rattle.cn_sentences.specs.Unread.{follow_up_line}
use Rattle.cn_sentences.proofs.unread.push_follow_ups.Given as goal

-- the lines so far
abbrev pub invariant-loop-follow_up : goal.invariant-loop-follow_up
invariant-loop-follow_up l = string_bytes l.text ≡ string_bytes l.initial.text ++ flat_map (follow_up_line l.table l.mark) (take l.follow_up-index l.follow_ups)
