use Rattle.std.proofs.Common.{◌≡◌, ◌++◌, flat_map, string_bytes, take}
use Rattle.cn_sentences.specs.Triangle.{rows_of}
use Rattle.cn_markdown.specs.Rows.{row}
use Rattle.cn_markdown.proofs.rows.push_rows.Given as goal

-- the rows so far
abbrev pub invariant-loop-shown : goal.invariant-loop-shown
invariant-loop-shown l = string_bytes l.text ≡ string_bytes l.initial.text ++ flat_map row (rows_of (take l.shown-index l.rows))
