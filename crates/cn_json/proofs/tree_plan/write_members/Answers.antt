use Rattle.std.proofs.Common.{map}
use Rattle.std.specs.List.{range_with_len}
use Rattle.cn_json.specs.TreePlans.{member_data}
use Rattle.cn_tree_text.specs.Places.{first_at, size_at}
use Rattle.cn_json.proofs.Arrays.{each_closed}
use Rattle.cn_json.proofs.Pieces.{piece, same}
use Rattle.cn_json.proofs.tree_plan.write_members.Goals as goal

pub returns : goal.returns
returns c = piece c.in_ok-begin_array_at.ensures
    (same (piece c.in_ok-write_each_member.ensures c.end_array.ensures) (each_closed (map (member_data c.args.plan.now c.args.node) (range_with_len (first_at c.args.plan.now c.args.node) (size_at c.args.plan.now c.args.node)))))
