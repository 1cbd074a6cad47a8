use Rattle.std.proofs.Common.{◌≡◌, ◌++◌, flat_map, string_bytes}
use Rattle.std.specs.List.{range_with_len}
use Rattle.cn_sentences.specs.Triangle.{rows_of, texts_of}
use Rattle.cn_text.specs.Columns.{text_at}
use Rattle.cn_text.specs.PairLines.{aligned, width}
use Rattle.cn_text.proofs.pair_lines.push_columns.Given as goal

-- the columns so far
abbrev pub invariant-loop-column : goal.invariant-loop-column
invariant-loop-column l =
    string_bytes l.text
    ≡ string_bytes l.initial.text ++ flat_map (λ c. aligned c (width (rows_of l.rows) c) (text_at (texts_of l.row) c)) (range_with_len 0 l.column)
