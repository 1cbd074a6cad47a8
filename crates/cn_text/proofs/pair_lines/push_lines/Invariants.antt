use Rattle.std.proofs.Common.{◌≡◌, ◌++◌, flat_map, string_bytes, take}
use Rattle.cn_sentences.specs.Triangle.{rows_of}
use Rattle.cn_text.specs.PairLines.{aligned_line}
use Rattle.cn_text.proofs.pair_lines.push_lines.Given as goal

-- the lines so far
abbrev pub invariant-loop-row : goal.invariant-loop-row
invariant-loop-row l = string_bytes l.text ≡ string_bytes l.initial.text ++ flat_map (aligned_line (rows_of l.rows)) (rows_of (take l.row-index l.rows))
