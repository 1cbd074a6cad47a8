-- Nodes at the head of a list, which stands for the sizes of the teams of each node.
use Rattle.std.specs.Prelude.{◌≡◌, ◌≤◌, ◌++◌, ℕ, List, Option, Some, None}
use Rattle.cn_choice.specs.declared.limits.TheConstants.{MOST_PROCESSES}
use Rattle.cn_trees.specs.Tree.{Teams, members}
use Rattle.cn_tree_check.specs.Sizes.{all_sizes, below_sizes, teams_at}
use Rattle.cn_tree_check.specs.declared.building.Begun.{Begun}
use Rattle.cn_tree_costs.specs.Sizes.{sizes_of}
use Rattle.cn_tree_plans.specs.Teams.{AreProper, AreSeveralBelow, teams_of}

-- the first nodes are those of the tree with these teams at the root, which a plan tree of so many
-- processes may have, and the others are behind
pub record BeginsWithTree (size : ℕ) (nodes : List (List ℕ)) (s : Teams) (behind : List (List ℕ))
    : Type 0 where
  pub proper : AreProper s
  pub few : members s ≤ MOST_PROCESSES
  pub processes : members s ≡ size
  pub nodes_are : all_sizes s ++ behind ≡ nodes

-- the teams have these sizes, the first nodes are those below them, and the others are behind
pub record BeginsBelow (sizes : List ℕ) (nodes : List (List ℕ)) (s : Teams) (behind : List (List ℕ))
    : Type 0 where
  pub several : AreSeveralBelow s
  pub sizes_are : sizes_of s ≡ sizes
  pub nodes_are : below_sizes s ++ behind ≡ nodes

-- the tree at the head, if there is one
abbrev pub IsTreeAtHead : ℕ → List (List ℕ) → Option Begun → Type 0
IsTreeAtHead size nodes None = (s : Teams) (behind : List (List ℕ))
    → ¬ BeginsWithTree size nodes s behind
IsTreeAtHead size nodes (Some b) =
    BeginsWithTree size nodes (teams_of b.teams) (teams_at b.behind.now)

-- the teams of these sizes whose nodes are at the head, if there are some
abbrev pub AreTeamsAtHead : List ℕ → List (List ℕ) → Option Begun → Type 0
AreTeamsAtHead sizes nodes None = (s : Teams) (behind : List (List ℕ)) → members s ≤ MOST_PROCESSES
    → ¬ BeginsBelow sizes nodes s behind
AreTeamsAtHead sizes nodes (Some b) =
    BeginsBelow sizes nodes (teams_of b.teams) (teams_at b.behind.now)
