use Rattle.std.proofs.Common.{◌≡◌, ◌∷◌, take}
use Rattle.cn_table.specs.DraftView.{texts_view}
use Rattle.cn_table.specs.TypeTable.{operation_names}
use Rattle.cn_sentences.proofs.triangle.head.Given as goal

-- the texts so far
abbrev pub invariant-loop-operation : goal.invariant-loop-operation
invariant-loop-operation l = texts_view l.texts ≡ l.corner ∷ take l.operation (operation_names l.table)
