use Rattle.std.proofs.Common.{◌∙◌, sym, true≢false}
use Rattle.cn_stocks.proofs.Steps.{shows_first}
use Rattle.cn_divisions.proofs.components.is_open.Goals as goal

pub returns-then-not-has : goal.returns-then-not-has
returns-then-not-has c sight start closed j =
    let s = c.args.setting.now in
    absurd (true≢false (sym (c.has.ensures.1 (shows_first s.table.now start s.stock.now.operations.items c.args.f j.to j.response j.told_f.0 j.told_f.1)) ∙ c.if-not-has.true))

pub returns-then-not-has-2 : goal.returns-then-not-has-2
returns-then-not-has-2 c sight start closed j =
    let s = c.args.setting.now in
    absurd (true≢false (sym (c.has-2.ensures.1 (shows_first s.table.now start s.stock.now.operations.items c.args.g j.to j.response j.told_g.0 j.told_g.1)) ∙ c.if-not-has-2.true))
