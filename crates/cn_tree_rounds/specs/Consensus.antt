-- Consensus of the decisions after a schedule of the processes of a plan tree.
use Rattle.std.specs.Prelude.{ℕ, ◌≡◌, ◌<◌, ◌≤◌, ◌↔◌, List, length, Option}
use Rattle.cn_agree.specs.Consensus.{Agrees, HasDecided, IsValid, occurrences}
use Rattle.cn_trees.specs.Consensus.{steps_of}
use Rattle.cn_trees.specs.Tree.{processes_of}
use Rattle.cn_tree_plans.specs.Plan.{TreePlan, tree_of}

-- an entry for each process; agreement; validity, for participants; and a process has decided
-- exactly if the schedule names it as often as it has steps
pub record IsConsensus (plan : TreePlan) (inputs schedule : List ℕ)
    (decisions : List (Option ℕ)) : Type 0 where
  pub entries : length decisions ≡ processes_of (tree_of plan)
  pub agreement : Agrees decisions
  pub validity : IsValid inputs schedule decisions
  pub in_time : (p : ℕ) → p < processes_of (tree_of plan)
      → HasDecided decisions p ↔ (steps_of (tree_of plan) p ≤ occurrences schedule p)
