-- Plan trees as examples, and a run of one.
use Rattle.std.specs.Prelude.{ℕ, List, [], ◌∷◌}
use Rattle.cn_meetings.specs.Examples.{compare_and_swap, puts, sticky_bit, swaps}
use Rattle.cn_trees.specs.FullTrees.{full, parting_tree}
use Rattle.cn_trees.specs.Tree.{PlanTree}

-- a sticky bit at each of three nodes: two processes meet at each of two nodes, and then all
abbrev pub four_of_a_sticky_bit : PlanTree
four_of_a_sticky_bit = parting_tree sticky_bit (full 2 1) puts

-- one compare-and-swap, at which k processes meet, each a team
abbrev pub one_compare_and_swap : ℕ → PlanTree
one_compare_and_swap k = parting_tree (compare_and_swap k) (full k 0) (swaps k)

-- process 0 writes its value, process 3 takes all its steps, process 0 the rest of its own, and
-- process 1 all but one
abbrev pub last_goes_first : List ℕ
last_goes_first = 0 ∷ 3 ∷ 3 ∷ 3 ∷ 3 ∷ 3 ∷ 3 ∷ 0 ∷ 0 ∷ 0 ∷ 0 ∷ 0 ∷ 1 ∷ 1 ∷ 1 ∷ 1 ∷ 1 ∷ []
