use Rattle.std.proofs.Common.{◌≡◌, ◌++◌, codes, flat_map, string_bytes, take}
use Rattle.cn_sentences.specs.Groups.{member}
use Rattle.cn_sentences.proofs.groups.push_others.Given as goal

-- the groups so far
abbrev pub invariant-loop-group : goal.invariant-loop-group
invariant-loop-group l = string_bytes l.text ≡ string_bytes l.initial.text ++ flat_map (member l.table (codes ", ") l.team) (take l.group-index l.groups)
