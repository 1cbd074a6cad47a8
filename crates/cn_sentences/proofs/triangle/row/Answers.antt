use Rattle.std.proofs.Common.{◌∷◌, [], string_bytes}
use Rattle.cn_table.specs.Names.{name_at}
use Rattle.cn_table.specs.TypeTable.{operation_names}
use Rattle.cn_sentences.specs.Triangle.{cell}
use Rattle.cn_sentences.proofs.Rows.{value_more}
use Rattle.cn_sentences.proofs.triangle.row.Goals as goal

pub loop-other-preserved : goal.loop-other-preserved
loop-other-preserved c =
    value_more (λ s. string_bytes s) (λ j. cell c.args.pairs.now c.args.operation.0 j) c.loop-other.texts.items c.push-in-loop-other.new.self.items c.in_ok-cell.field-0
    (name_at (operation_names c.args.table.now) c.args.operation.0 ∷ []) c.loop-other.other c.in_ok-push-2.ensures.items c.loop-other.invariant c.in_ok-cell.ensures
