use Rattle.std.proofs.Common.{◌≡◌, ◌++◌, flat_map, string_bytes, take}
use Rattle.cn_sentences.specs.Triangle.{texts_of}
use Rattle.cn_markdown.specs.Rows.{cell}
use Rattle.cn_markdown.proofs.rows.push_cells.Given as goal

-- the cells so far
abbrev pub invariant-loop-text_of_cell : goal.invariant-loop-text_of_cell
invariant-loop-text_of_cell l = string_bytes l.text ≡ string_bytes l.initial.text ++ flat_map cell (texts_of (take l.text_of_cell-index l.shown))
