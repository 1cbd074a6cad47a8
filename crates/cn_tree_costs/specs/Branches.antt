-- The trees below a root. New here.
use Rattle.std.specs.Prelude.{ℕ, ◌+◌, ◌*◌, max, Bool, List, [], ◌∷◌, map, sum, Option, None, Some}
use Rattle.cn_table.specs.TypeTable.{TypeTable}
use Rattle.cn_meetings.specs.Meeting.{Sight}
use Rattle.cn_trees.specs.Tree.{PlanTree, Teams, nodes_in, processes_of}
use Rattle.cn_trees.specs.Tree.Teams.{Alone, Last, Meet}
use Rattle.cn_tree_costs.specs.Cost.{Cost, IsTreeFor, cost}
use Rattle.cn_tree_costs.specs.Nodes.{tree_at}
use Rattle.cn_tree_costs.specs.Sizes.{price}

-- a team at the root: the processes of a tree, or, if there is none, one process
abbrev pub Branch : Type 0
Branch = Option PlanTree

abbrev pub size_of : Branch → ℕ
size_of None = 1
size_of (Some T) = processes_of T

-- a process alone has nothing below
abbrev pub cost_of : Branch → Cost
cost_of None = record { steps = 0; nodes = 0; sum = 0 }
cost_of (Some T) = cost T

-- uniform trees of witnesses of the type
abbrev pub AreBranches : TypeTable → (Sight → Bool) → List Branch → Type 0
AreBranches t allowed [] = Unit {0}
AreBranches t allowed (None ∷ branches) = AreBranches t allowed branches
AreBranches t allowed (Some T ∷ branches) = IsTreeFor t allowed (processes_of T) T
    × AreBranches t allowed branches

-- the trees of these teams at the root of a tree; the first node below them has this number
abbrev pub branches_from : PlanTree → Teams → ℕ → List Branch
branches_from T Last v = []
branches_from T (Alone r) v = None ∷ branches_from T r v
branches_from T (Meet s r) v = Some (tree_at T v) ∷ branches_from T r (v + 1 + nodes_in s)

abbrev pub branches_of : PlanTree → List Branch
branches_of T = branches_from T T.teams 1

-- the greatest number of steps, the objects and the sum of all of them
abbrev pub greatest_steps : List Branch → ℕ
greatest_steps [] = 0
greatest_steps (x ∷ branches) = max (cost_of x).steps (greatest_steps branches)

abbrev pub all_nodes : List Branch → ℕ
all_nodes [] = 0
all_nodes (x ∷ branches) = (cost_of x).nodes + all_nodes branches

abbrev pub all_steps : List Branch → ℕ
all_steps [] = 0
all_steps (x ∷ branches) = (cost_of x).sum + all_steps branches

-- the cost of a root above, whose processes look in this way
abbrev pub joined_cost : Sight → List Branch → Cost
joined_cost sight branches = record {
  steps = price sight + greatest_steps branches;
  nodes = 1 + all_nodes branches;
  sum = sum (map size_of branches) * price sight + all_steps branches;
}
