-- The teams of a node in memory, and which teams a plan tree in memory has.
use Rattle.std.specs.Prelude.{◌≤◌, length}
use Rattle.cn_trees.specs.Tree.{Teams}
use Rattle.cn_trees.specs.Tree.Teams.{Alone, Last, Meet}
use Rattle.cn_tree_costs.specs.Sizes.{sizes_of}
use Rattle.cn_tree_plans.specs.declared.teams.Teams.{Teams as TeamsInMemory}
use Rattle.cn_tree_plans.specs.declared.teams.Teams.{Last as Last_, Alone' as Alone_, Meet' as Meet_}

-- what they stand for
abbrev pub teams_of : TeamsInMemory → Teams
teams_of Last_ = Last
teams_of (Alone_ at r) = Alone (teams_of r)
teams_of (Meet_ at s behind r) = Meet (teams_of s) (teams_of r)

-- a node has two or more teams, and so has each node below
abbrev pub AreSeveralBelow : Teams → Type 0
AreSeveralBelow Last = Unit {0}
AreSeveralBelow (Alone r) = AreSeveralBelow r
AreSeveralBelow (Meet s r) = (2 ≤ length (sizes_of s)) × AreSeveralBelow s × AreSeveralBelow r

pub record AreProper (s : Teams) : Type 0 where
  pub several : 2 ≤ length (sizes_of s)
  pub below : AreSeveralBelow s
