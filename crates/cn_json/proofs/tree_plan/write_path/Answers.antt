use Rattle.std.proofs.Common.{ap, codes, map, List, sym, ◌∙◌}
use Rattle.std.proofs.lemmas.Simd.{map-map}
use Rattle.serde_json.specs.Data.{Data, array}
use Rattle.serde_json.specs.View.{items_of}
use Rattle.cn_trees.specs.Tree.{Place}
use Rattle.cn_tree_plans.specs.Paths.{place_of}
use Rattle.cn_json.specs.Tokens.{member_tokens}
use Rattle.cn_json.specs.TreePlans.{tree_path_data, tree_place_data}
use Rattle.cn_json.proofs.Pieces.{piece, same}
use Rattle.cn_json.proofs.tree_plan.write_path.Goals as goal

pub returns : goal.returns
unfolding tree_path_data
returns c =
    let places = same c.in_ok-array_at.ensures
    (ap (λ (ds : List Data). member_tokens (codes "places") (array (items_of ds)))
    (sym (map-map tree_place_data place_of c.path.result.now) ∙ ap (λ (xs : List Place). map tree_place_data xs) c.path.ensures.places)) in
    rw (← c.steps.ensures.number) (piece c.in_ok-begin_object.ensures (piece places c.last_members.ensures))
