-- The sizes of the teams of all nodes.
use Rattle.std.specs.Prelude.{ℕ, ◌++◌, List, [], ◌∷◌, map}
use Rattle.cn_trees.specs.Tree.{Teams}
use Rattle.cn_trees.specs.Tree.Teams.{Alone, Last, Meet}
use Rattle.cn_tree_cert.specs.Certificate.{TreeNode}
use Rattle.cn_tree_costs.specs.Sizes.{sizes_of}

-- those of the nodes below these teams, in the order of the nodes
abbrev pub below_sizes : Teams → List (List ℕ)
below_sizes Last = []
below_sizes (Alone r) = below_sizes r
below_sizes (Meet s r) = sizes_of s ∷ (below_sizes s ++ below_sizes r)

-- those of all nodes of the tree with these teams at the root
abbrev pub all_sizes : Teams → List (List ℕ)
all_sizes s = sizes_of s ∷ below_sizes s

-- those that nodes of a certificate have
abbrev pub teams_at : List TreeNode → List (List ℕ)
teams_at nodes = map (λ n. n.teams) nodes
