-- No node has more teams than there are processes.
use Rattle.std.proofs.Common.{ℕ, zero, suc, ◌+◌, ◌-◌, ◌<◌, ◌≤◌, length, arith, Bool, true, false, nat_lt, if◌then◌else◌}
use Rattle.cn_choice.specs.declared.limits.TheConstants.{MOST_PROCESSES}
use Rattle.cn_trees.specs.Tree.{Teams, members, nodes_in}
use Rattle.cn_trees.specs.Tree.Teams.{Alone, Last, Meet}
use Rattle.cn_tree_costs.specs.Nodes.{behind, node_at, node_below}
use Rattle.cn_tree_costs.specs.Sizes.{sizes_of}
use Rattle.cn_tree_plans.specs.Plan.{IsTreePlan, TreePlan}
use Rattle.cn_tree_plans.specs.Teams.{AreSeveralBelow}
use Rattle.cn_tree_plans.proofs.TeamLemmas.{several_bound}

teams_few : (s : Teams) → AreSeveralBelow s → length (sizes_of s) ≤ members s
teams_few s h = let fewer = several_bound s h in omega arith

teams_below : (s : Teams) → AreSeveralBelow s → (v : ℕ) → length (sizes_of (node_below s v).teams) ≤ members s
teams_below Last h v = omega arith
teams_below (Alone r) h v = let more = teams_below r h v in omega arith
teams_below (Meet s r) h zero = let own = teams_few s h.1 in omega arith
teams_below (Meet s r) h (suc v) = go (nat_lt v (nodes_in s)) (teams_below s h.1 v) (teams_below r h.2 (v - nodes_in s))
  where
    go : (b : Bool) → length (sizes_of (node_below s v).teams) ≤ members s → length (sizes_of (node_below r (v - nodes_in s)).teams) ≤ members r
        → length (sizes_of (if b then node_below s v else behind (members s) (node_below r (v - nodes_in s))).teams) ≤ members s + members r
    go true own more = omega arith
    go false own more = omega arith

teams_at : (s : Teams) → AreSeveralBelow s → (v : ℕ) → length (sizes_of (node_at s v).teams) ≤ members s
teams_at s h zero = teams_few s h
teams_at s h (suc v) = teams_below s h v

pub few_teams : (plan : TreePlan) → IsTreePlan plan → (v team : ℕ) → team < length (sizes_of (node_at plan.teams v).teams) → team < MOST_PROCESSES
few_teams plan is v team lt =
    let few = is.few in
    let some : length (sizes_of (node_at plan.teams v).teams) ≤ members plan.teams = teams_at plan.teams is.proper.below v in
    omega arith
