use Rattle.std.proofs.Common.{◌≡◌, ◌++◌, flat_map, map, string_bytes, take}
use Rattle.cn_text.specs.Folded.{folded_line}
use Rattle.cn_text.proofs.folded.push_lines.Given as goal

-- the lines so far
abbrev pub invariant-loop-line : goal.invariant-loop-line
invariant-loop-line l = string_bytes l.text ≡ string_bytes l.initial.text ++ flat_map folded_line (map (λ line. line.now) (take l.line-index l.lines))
