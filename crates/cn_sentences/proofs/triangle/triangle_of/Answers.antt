use Rattle.std.proofs.Common.{◌∷◌, []}
use Rattle.cn_table.specs.DraftView.{texts_view}
use Rattle.cn_sentences.specs.Triangle.{head, row}
use Rattle.cn_sentences.proofs.Rows.{value_more}
use Rattle.cn_sentences.proofs.triangle.triangle_of.Goals as goal

pub loop-operation-preserved : goal.loop-operation-preserved
loop-operation-preserved c =
    value_more texts_view (λ i. row c.args.table.now c.args.pairs.now i) c.loop-operation.rows.items c.push-in-loop-operation.new.self.items c.in_ok-row.field-0
    (head c.args.table.now c.args.corner.now ∷ []) c.loop-operation.operation c.in_ok-push-2.ensures.items c.loop-operation.invariant c.in_ok-row.ensures
