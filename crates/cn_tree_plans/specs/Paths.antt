-- The paths of the processes in memory.
use Rattle.std.specs.Prelude.{◌≡◌, ◌+◌, ◌<◌, ℕ, List, [], length, map, slice_index_or}
use Rattle.cn_meetings.specs.Witness.{Has}
use Rattle.cn_trees.specs.Tree.{Place, Teams, comes_to, members, nodes_in, path_in, team_in}
use Rattle.cn_tree_costs.specs.Nodes.{node_at}
use Rattle.cn_tree_costs.specs.Sizes.{sizes_of}
use Rattle.cn_tree_plans.specs.declared.place.Place.{Place as PlaceInMemory}

-- what places stand for
abbrev pub place_of : PlaceInMemory → Place
place_of x = record { node = x.node; team = x.team }

abbrev pub places_of : List PlaceInMemory → List Place
places_of places = map place_of places

-- the paths of all processes of these teams
pub record ArePaths (s : Teams) (paths : List (List PlaceInMemory)) : Type 0 where
  pub count : length paths ≡ members s
  pub each : (p : ℕ) → p < members s → places_of (slice_index_or paths p []) ≡ path_in s p

-- process p comes to the node of this place, and is in this team of it
pub record IsPlaceOf (s : Teams) (p : ℕ) (x : PlaceInMemory) : Type 0 where
  pub node : x.node < 1 + nodes_in s
  pub comes : Has (comes_to s x.node) p
  pub team : team_in s x.node p ≡ x.team
  pub inside : x.team < length (sizes_of (node_at s x.node).teams)
