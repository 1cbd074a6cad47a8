use Rattle.std.proofs.Common.{map}
use Rattle.std.specs.List.{range_with_len}
use Rattle.cn_json.specs.TreePlans.{tree_path_data}
use Rattle.cn_trees.specs.Tree.{processes_of}
use Rattle.cn_tree_plans.specs.Plan.{tree_of}
use Rattle.cn_json.proofs.Arrays.{each_closed}
use Rattle.cn_json.proofs.Pieces.{piece, same}
use Rattle.cn_json.proofs.tree_plan.write_paths.Goals as goal

pub returns : goal.returns
returns c = piece c.in_ok-begin_array_at.ensures
    (same (piece c.in_ok-write_each_path.ensures c.end_array.ensures) (each_closed (map (tree_path_data c.args.plan.now) (range_with_len 0 (processes_of (tree_of c.args.plan.now))))))
