use Rattle.std.proofs.Common.{◌∙◌, sym, arith}
use Rattle.cn_code.specs.TreeJudgements.{columns, is_alike}
use Rattle.cn_code.proofs.Loops.{all_fails}
use Rattle.cn_code.proofs.tree.seats.are_alike.Goals as goal

pub returns-then-not-is_alike : goal.returns-then-not-is_alike
returns-then-not-is_alike c =
    let plan = c.args.plan.now in
    sym (all_fails (is_alike plan c.args.seat c.args.other c.args.response.0) (columns plan c.args.seat) c.loop-saw.saw
    (omega (arith, c.loop-saw-test.true, c.columns-saw-end.ensures))
    (sym c.is_alike.ensures ∙ c.if-not-is_alike.true))
