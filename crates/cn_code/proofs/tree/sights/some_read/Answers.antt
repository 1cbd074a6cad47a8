use Rattle.std.proofs.Common.{◌∙◌, sym, arith}
use Rattle.cn_meetings.specs.Sights.{reads}
use Rattle.cn_trees.specs.Tree.{nodes_of}
use Rattle.cn_tree_plans.specs.Plan.{tree_of}
use Rattle.cn_code.specs.TreeJudgements.{sight_at}
use Rattle.cn_code.proofs.Loops.{any_holds}
use Rattle.cn_code.proofs.tree.sights.some_read.Goals as goal

pub returns-then-reads_at : goal.returns-then-reads_at
returns-then-reads_at c =
    let plan = c.args.plan.now in
    sym (any_holds (λ v. reads (sight_at plan v)) (nodes_of (tree_of plan)) c.loop-node.node
    (omega (arith, c.loop-node-test.true, c.nodes-node-end.ensures.number))
    (sym c.reads_at.ensures ∙ c.if-reads_at.true))
