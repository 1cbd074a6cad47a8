use Rattle.std.proofs.Common.{◌≡◌, ◌∷◌, map}
use Rattle.std.specs.List.{range_with_len}
use Rattle.cn_table.specs.DraftView.{texts_view}
use Rattle.cn_table.specs.Names.{name_at}
use Rattle.cn_table.specs.TypeTable.{operation_names}
use Rattle.cn_sentences.specs.Triangle.{cell}
use Rattle.cn_sentences.proofs.triangle.row.Given as goal

-- the name, and the cells so far
abbrev pub invariant-loop-other : goal.invariant-loop-other
invariant-loop-other l =
    texts_view l.texts ≡ name_at (operation_names l.table) l.operation.0 ∷ map (λ j. cell l.pairs l.operation.0 j) (range_with_len 0 l.other)
