use Rattle.std.proofs.Common.{◌∙◌, sym, arith}
use Rattle.cn_code.specs.TreeJudgements.{judge_alike}
use Rattle.cn_code.specs.Trees.{no_seat}
use Rattle.cn_code.proofs.Firsts.{first_is, none_is}
use Rattle.cn_code.proofs.tree.seats.number_among.Goals as goal

pub returns-then-judge_alike : goal.returns-then-judge_alike
returns-then-judge_alike c =
    first_is (judge_alike c.args.plan.now c.args.seat) c.args.judges.now no_seat _ c.loop-number.number c.loop-number.invariant (omega (arith, c.loop-number-test.true))
    (sym c.judge_alike.ensures ∙ c.if-judge_alike.true)

pub returns : goal.returns
returns c = none_is (judge_alike c.args.plan.now c.args.seat) c.args.judges.now no_seat c.loop-number.number c.loop-number.invariant (omega (arith, c.loop-number-test.false))
