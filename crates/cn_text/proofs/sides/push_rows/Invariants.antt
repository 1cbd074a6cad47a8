use Rattle.std.proofs.Common.{◌≡◌, ◌++◌, flat_map, string_bytes}
use Rattle.std.specs.List.{range_with_len}
use Rattle.cn_sentences.specs.Triangle.{texts_of}
use Rattle.cn_text.specs.Sides.{row}
use Rattle.cn_text.proofs.sides.push_rows.Given as goal

-- the rows so far
abbrev pub invariant-loop-place : goal.invariant-loop-place
invariant-loop-place l =
    string_bytes l.text ≡ string_bytes l.initial.text ++ flat_map (row l.width l.head (texts_of l.left) (texts_of l.right)) (range_with_len 0 l.place)
