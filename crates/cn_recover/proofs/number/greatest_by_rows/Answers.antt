use Rattle.std.proofs.lemmas.Result.{IfOk-weaker}
use Rattle.cn_recover.proofs.NumberBounds.{same_up_to}
use Rattle.cn_recover.proofs.number.greatest_by_rows.Goals as goal

pub returns : goal.returns
returns g c =
    let t = c.args.table.now in
    IfOk-weaker c.greatest.result _ _
    (λ found h. same_up_to t _ (c.one_operation_of_each_row_is_enough.ensures.rows t _ c.in_ok-searched.ensures) c.args.most found h)
    c.greatest.ensures
