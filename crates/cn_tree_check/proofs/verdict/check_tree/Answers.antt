use Rattle.std.proofs.lemmas.Result.{IfOk-weaker}
use Rattle.cn_tree_check.specs.Right.{IsPlanOf}
use Rattle.cn_tree_check.proofs.RightLemmas.{no_fault, says}
use Rattle.cn_tree_check.proofs.verdict.check_tree.Goals as goal

pub returns-clause-plan : goal.returns-clause-plan
returns-clause-plan c =
    IfOk-weaker c.right_plan.result (IsPlanOf c.args.table.now c.args.certificate.now) _
    (λ plan is. (is.table, says c.args.table.now c.args.certificate.now plan is)) c.right_plan.ensures.plan

pub returns-clause-passes : goal.returns-clause-passes
returns-clause-passes c = no_fault c.args.table.now c.args.certificate.now c.right_plan.result c.right_plan.ensures.fault
