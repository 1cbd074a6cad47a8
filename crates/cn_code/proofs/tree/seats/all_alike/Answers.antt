use Rattle.std.proofs.Common.{◌∙◌, ap, length, sym, arith}
use Rattle.cn_table.specs.TypeTable.{TypeTable}
use Rattle.cn_code.specs.TreeJudgements.{are_alike}
use Rattle.cn_code.proofs.Loops.{all_fails}
use Rattle.cn_code.proofs.tree.seats.all_alike.Goals as goal

pub returns-then-not-are_alike : goal.returns-then-not-are_alike
returns-then-not-are_alike c =
    let plan = c.args.plan.now in
    sym (all_fails (are_alike plan c.args.seat c.args.other) (length plan.table.responses) c.loop-response.response
    (omega (arith, c.loop-response-test.true, c.responses-response-end.ensures.number, ap (λ (t : TypeTable). length t.responses) c.table.ensures))
    (sym c.are_alike.ensures ∙ c.if-not-are_alike.true))
