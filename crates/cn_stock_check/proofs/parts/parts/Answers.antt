use Rattle.std.proofs.Common.{◌<◌, ◌∙◌, List, sym, true≢false}
use Rattle.std.proofs.lemmas.List.{take_more}
use Rattle.std.proofs.lemmas.List.Elements.{All-get_or}
use Rattle.cn_stock_check.specs.declared.needs.Need.{Need}
use Rattle.cn_stock_check.proofs.PartLemmas.{parts_more, parts_same}
use Rattle.cn_stock_check.proofs.parts.parts.Goals as goal
use Rattle.cn_stock_check.proofs.parts.parts.Goals.{then-has_need, else-has_need}

pub loop-need-preserved : goal.loop-need-preserved
loop-need-preserved c =
    let needs : List Need = c.args.needs.now in
    let i = c.loop-need.need-index in
    elim c.if-has_need.branch [
      | then-has_need w ↦ rw w.labels-is
          (parts_more needs i c.args.counts.now c.loop-need.labels w.with_one-labels.result c.requires c.loop-need.invariant _ (take_more needs i _ c.loop-need-test.true)
          (All-get_or (λ (need : Need). (need.first < 8) × (need.second < 8)) needs i _ c.loop-need-test.true c.requires) (c.has_need.ensures.0 w.if-has_need.true) w.with_one-labels.ensures)
      | else-has_need w ↦ rw w.labels-is
          (parts_same needs i c.args.counts.now c.loop-need.labels c.loop-need.invariant _ (take_more needs i _ c.loop-need-test.true)
          (λ h. true≢false (sym (c.has_need.ensures.1 h) ∙ w.if-has_need.false)))
    ]
