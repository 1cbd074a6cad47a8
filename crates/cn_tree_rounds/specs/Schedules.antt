-- The decisions after a schedule of the processes of a plan tree.
use Rattle.std.specs.Prelude.{ℕ, List, map, Option, slice_index}
use Rattle.std.specs.List.{range_with_len}
use Rattle.cn_trees.specs.Consensus.{decision}
use Rattle.cn_trees.specs.Steps.{World, world_after}
use Rattle.cn_trees.specs.Tree.{processes_of}
use Rattle.cn_tree_plans.specs.Plan.{TreePlan, tree_of}

-- the input of each process
abbrev pub input_of : List ℕ → ℕ → ℕ
input_of inputs p = slice_index inputs p

-- the decision of each of n processes
abbrev pub decisions_of : ℕ → World ℕ → List (Option ℕ)
decisions_of n w = map (decision w) (range_with_len 0 n)

-- the decision of each process after this schedule of the plan
abbrev pub decisions_after : TreePlan → List ℕ → List ℕ → List (Option ℕ)
decisions_after plan inputs schedule =
    decisions_of (processes_of (tree_of plan)) (world_after (tree_of plan) (input_of inputs) schedule)
