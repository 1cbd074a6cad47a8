use Rattle.std.proofs.Common.{◌≡◌, ◌∙◌, ap, length, max, rules, sym, take}
use Rattle.cn_table.specs.DraftView.{texts_view}
use Rattle.cn_sentences.specs.Triangle.{rows_of, texts_of}
use Rattle.cn_text.specs.Columns.{text_at}
use Rattle.cn_text.specs.PairLines.{width}
use Rattle.cn_text.proofs.RowWidths.{width_more}
use Rattle.cn_text.proofs.pair_lines.width.Goals as goal

pub loop-row-preserved : goal.loop-row-preserved
loop-row-preserved c =
    let column = c.args.column in
    let before = width (rows_of (take c.loop-row.row-index c.args.rows.now)) column in
    let shown : c.text_at.result.now ≡ text_at (texts_view c.row-item.result) column = c.text_at.ensures ∙ ap (λ texts. text_at (texts_of texts) column) c.as_slice.ensures.value in
    let wider : c.max-width.result ≡ max c.loop-row.width (length c.text_at.result.now) = search rules in
    wider
    ∙ (ap (λ w. max w (length c.text_at.result.now)) c.loop-row.invariant
    ∙ (ap (λ text. max before (length text)) shown ∙ sym (width_more c.args.rows.now column c.loop-row.row-index c.row-item.result c.loop-row-test.true c.row-item.is)))
