-- The paths of the examples.
use Rattle.std.proofs.Common.{ℕ, zero, suc, ◌≡◌, ◌+◌, ◌<◌, length, refl, arith}
use Rattle.cn_trees.specs.FullTrees.{full, singles}
use Rattle.cn_trees.specs.Tree.{climb, nodes_in, path_in}

pub path_of_four : (p : ℕ) → p < 4 → length (path_in (full 2 1) p) ≡ 2
path_of_four zero lt = refl
path_of_four (suc zero) lt = refl
path_of_four (suc (suc zero)) lt = refl
path_of_four (suc (suc (suc zero))) lt = refl
path_of_four (suc (suc (suc (suc p)))) lt = absurd (omega arith)

pub one_place_each : (k node team next p : ℕ) → p < k → length (climb (singles k) node team next p) ≡ 1
one_place_each zero node team next p lt = absurd (omega arith)
one_place_each (suc k) node team next zero lt = refl
one_place_each (suc k) node team next (suc p) lt = one_place_each k node (team + 1) next p (omega arith)

pub no_node_below : (k : ℕ) → nodes_in (singles k) ≡ 0
no_node_below zero = refl
no_node_below (suc k) = no_node_below k
