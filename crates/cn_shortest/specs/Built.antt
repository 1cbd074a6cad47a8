-- Teams and the meetings of their nodes, at the load of a search.
use Rattle.std.specs.Prelude.{ℕ, ◌≡◌, ◌+◌, Bool, List, ◌++◌}
use Rattle.cn_meetings.specs.Meeting.{Sight}
use Rattle.cn_table.specs.TypeTable.{TypeTable}
use Rattle.cn_tree_costs.specs.Least.{Load}
use Rattle.cn_tree_costs.specs.Sizes.{sizes_of}
use Rattle.cn_tree_plans.specs.Plan.{NodeMeeting}
use Rattle.cn_trees.specs.Tree.{Teams, members, nodes_in}
use Rattle.cn_shortest.specs.Nodes.{AreNodes, AreTreeNodes}
use Rattle.cn_shortest.specs.Searches.{HaveExamples}
use Rattle.cn_shortest.specs.declared.roots.Roots.{Roots}

-- teams of these sizes come to this load within b steps, with these meetings at the nodes below
pub record AreBuilt (roots : List Roots) (b : ℕ) (sizes : List ℕ) (x : Load) (s : Teams)
    (meetings : List NodeMeeting) : Type 0 where
  pub sizes_are : sizes_of s ≡ sizes
  pub nodes_are : nodes_in s ≡ x.nodes
  pub are : (t : TypeTable) (allowed : Sight → Bool) → HaveExamples t allowed roots
      → AreNodes t allowed b s meetings x.sum

-- a node of n processes with these teams comes to this load within b steps, with these meetings of
-- it and of the nodes below
pub record IsBuilt (roots : List Roots) (n b : ℕ) (x : Load) (s : Teams)
    (meetings : List NodeMeeting) : Type 0 where
  pub count : members s ≡ n
  pub nodes_are : 1 + nodes_in s ≡ x.nodes
  pub are : (t : TypeTable) (allowed : Sight → Bool) → HaveExamples t allowed roots
      → AreTreeNodes t allowed b s meetings x.sum

-- the meetings of the nodes below the teams stand behind the old ones
abbrev pub AddsTeams : List Roots → ℕ → List ℕ → Load → Teams → List NodeMeeting
    → List NodeMeeting → Type 0
AddsTeams roots b sizes x s old new = (meetings : List NodeMeeting) × (new ≡ old ++ meetings)
    × AreBuilt roots b sizes x s meetings

-- those of a node and of the nodes below do
abbrev pub AddsNode : List Roots → ℕ → ℕ → Load → Teams → List NodeMeeting → List NodeMeeting
    → Type 0
AddsNode roots n b x s old new = (meetings : List NodeMeeting) × (new ≡ old ++ meetings)
    × IsBuilt roots n b x s meetings
