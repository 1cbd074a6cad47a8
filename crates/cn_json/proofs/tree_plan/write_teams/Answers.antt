use Rattle.std.proofs.Common.{map}
use Rattle.std.specs.List.{range_with_len}
use Rattle.cn_json.specs.TreePlans.{team_size_at}
use Rattle.cn_tree_text.specs.Places.{team_count}
use Rattle.cn_json.specs.Values.{number_data}
use Rattle.cn_json.proofs.Arrays.{each_closed}
use Rattle.cn_json.proofs.Pieces.{piece, same}
use Rattle.cn_json.proofs.tree_plan.write_teams.Goals as goal

pub returns : goal.returns
returns c = piece c.in_ok-begin_array_at.ensures
    (same (piece c.in_ok-write_each_team.ensures c.end_array.ensures) (each_closed (map (λ team. number_data (team_size_at c.args.plan.now c.args.node team)) (range_with_len 0 (team_count c.args.plan.now c.args.node)))))
