-- The nodes of a plan tree, each with its processes, and the tree below it. New here.
use Rattle.std.specs.Prelude.{ℕ, zero, suc, ◌+◌, ◌-◌, ◌<◌, ◌≤◌, nat_lt, if◌then◌else◌}
use Rattle.cn_meetings.specs.Choices.{renamed}
use Rattle.cn_trees.specs.Tree.{PlanTree, Teams, members, nodes_in}
use Rattle.cn_trees.specs.Tree.Teams.{Alone, Last, Meet}

-- the processes that come to a node have numbers from the first one on; these are their teams there
pub record Node : Type 0 where
  pub first : ℕ
  pub teams : Teams

-- behind so many processes
abbrev pub behind : ℕ → Node → Node
behind k x = record { first = k + x.first; teams = x.teams }

-- node v of those below these teams, counted from 0; it has no process if there is no such node
abbrev pub node_below : Teams → ℕ → Node
node_below Last v = record { first = 0; teams = Last }
node_below (Alone r) v = behind 1 (node_below r v)
node_below (Meet s r) zero = record { first = 0; teams = s }
node_below (Meet s r) (suc v) =
    if nat_lt v (nodes_in s) then node_below s v else behind (members s) (node_below r (v - nodes_in s))

-- node v of the tree with these teams at the root, which is node 0
abbrev pub node_at : Teams → ℕ → Node
node_at s zero = record { first = 0; teams = s }
node_at s (suc v) = node_below s v

-- process p comes to the node
abbrev pub IsAmong : Node → ℕ → Type 0
IsAmong x p = (x.first ≤ p) × (p < x.first + members x.teams)

-- the tree of node v and the nodes below it; its processes and its nodes have numbers from 0 on
abbrev pub tree_at : PlanTree → ℕ → PlanTree
tree_at T v =
    let x = node_at T.teams v in
    record {
      table = T.table;
      teams = x.teams;
      meeting = λ w. renamed (λ p. x.first + p) (T.meeting (v + w));
      judge = λ w p. T.judge (v + w) (x.first + p);
    }
