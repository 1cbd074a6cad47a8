-- The verdict on a certificate of a plan tree as a JSON value.
use Rattle.std.specs.Prelude.{ℕ, List, true, codes}
use Rattle.serde_json.specs.Data.{Data, boolean, object, member, no_members}
use Rattle.cn_trees.specs.Tree.{nodes_of, processes_of}
use Rattle.cn_tree_costs.specs.Cost.{cost}
use Rattle.cn_tree_plans.specs.Plan.{TreePlan, tree_of}
use Rattle.cn_json.specs.Values.{number_data, text_data}

-- an accepted certificate of a plan: the number of objects, that of processes, and the greatest
-- number of own steps
unfoldable pub accepted_plan_data : TreePlan → Data
accepted_plan_data plan =
    object (member (codes "objects") (number_data (nodes_of (tree_of plan)))
    (member (codes "ok") (boolean true)
    (member (codes "processes") (number_data (processes_of (tree_of plan)))
    (member (codes "steps") (number_data (cost (tree_of plan)).steps) no_members))))

-- a fault of a process at a node
abbrev pub fault_at_node : List ℕ → ℕ → ℕ → ℕ → Data
fault_at_node name number node process =
    object (member (codes "name") (text_data name)
    (member (codes "node") (number_data node)
    (member (codes "number") (number_data number)
    (member (codes "process") (number_data process) no_members))))
