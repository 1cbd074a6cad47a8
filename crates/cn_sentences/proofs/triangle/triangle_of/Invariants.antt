use Rattle.std.proofs.Common.{◌≡◌, ◌∷◌, map}
use Rattle.std.specs.List.{range_with_len}
use Rattle.cn_sentences.specs.Triangle.{head, row, rows_of}
use Rattle.cn_sentences.proofs.triangle.triangle_of.Given as goal

-- the head, and the rows so far
abbrev pub invariant-loop-operation : goal.invariant-loop-operation
invariant-loop-operation l = rows_of l.rows.items ≡ head l.table l.corner ∷ map (λ i. row l.table l.pairs i) (range_with_len 0 l.operation)
