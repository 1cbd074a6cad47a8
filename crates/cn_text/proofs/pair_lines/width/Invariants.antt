use Rattle.std.proofs.Common.{◌≡◌, take}
use Rattle.cn_sentences.specs.Triangle.{rows_of}
use Rattle.cn_text.specs.PairLines.{width}
use Rattle.cn_text.proofs.pair_lines.width.Given as goal

-- the width so far
abbrev pub invariant-loop-row : goal.invariant-loop-row
invariant-loop-row l = l.width ≡ width (rows_of (take l.row-index l.rows)) l.column
