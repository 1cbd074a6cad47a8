-- The seats of a plan tree.
use Rattle.std.proofs.Common.{◌≡◌, ℕ, ◌<◌, List, length, get_or, sym, ap, ◌∙◌}
use Rattle.std.proofs.lemmas.List.{get_or-map, length-map}
use Rattle.cn_trees.specs.Tree.{IsPlace, Place}
use Rattle.cn_trees.proofs.Places.{come, node_known}
use Rattle.cn_tree_plans.specs.Paths.{place_of as place_in_memory, places_of}
use Rattle.cn_tree_plans.specs.Plan.{TreePlan, tree_of}
use Rattle.cn_tree_plans.specs.declared.place.Place.{Place as PlaceInMemory}
use Rattle.cn_code.specs.TreeJudgements.{IsSeat, seat_of}

pub at_place : (plan : TreePlan) (p i : ℕ) → IsPlace (tree_of plan) p i → IsSeat plan (seat_of plan p i)
at_place plan p i at = record {
  known = node_known (tree_of plan) p i at;
  comes = come (tree_of plan) p i at;
}

-- places in memory are as many as those that they stand for, and each stands for one of these
pub as_many : (xs : List PlaceInMemory) (path : List Place) → places_of xs ≡ path → length xs ≡ length path
as_many xs path e = sym (length-map xs place_in_memory) ∙ ap length e

pub stands_for : (xs : List PlaceInMemory) (path : List Place) (i : ℕ) (x : PlaceInMemory) (d : Place) → places_of xs ≡ path → i < length xs → x ≡ get_or xs i x
    → place_in_memory x ≡ get_or path i d
stands_for xs path i x d e l at = ap place_in_memory at ∙ (sym (get_or-map place_in_memory xs i x d l) ∙ ap (λ (t : List Place). get_or t i d) e)
