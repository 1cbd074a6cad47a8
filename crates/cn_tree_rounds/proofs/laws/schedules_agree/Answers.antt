use Rattle.std.proofs.Common.{arith}
use Rattle.cn_trees.specs.Tree.{processes_of}
use Rattle.cn_tree_plans.specs.Plan.{tree_of}
use Rattle.cn_tree_rounds.specs.Schedules.{input_of}
use Rattle.cn_tree_rounds.proofs.Deciding.{consensus_of}
use Rattle.cn_tree_rounds.proofs.laws.schedules_agree.Goals as goal

pub returns : goal.returns
returns c = λ plan right inputs schedule many all.
    consensus_of plan inputs schedule many all (c.plan_trees_agree.ensures (tree_of plan) (processes_of (tree_of plan)) right (omega arith) (input_of inputs) schedule all)
