use Rattle.std.proofs.Common.{◌≡◌, ap, codes, rules, length}
use Rattle.cn_table.specs.TypeTable.{TypeTable}
use Rattle.cn_choice.specs.TeamNames.{team_name}
use Rattle.cn_proto.specs.PlanText.{operation_name_of}
use Rattle.cn_proto.specs.Tournament.{team_of}
use Rattle.cn_json.specs.Plans.{pair_data, role_data}
use Rattle.cn_json.specs.Tokens.{member_tokens}
use Rattle.cn_json.specs.Values.{list_data}
use Rattle.cn_json.proofs.Pieces.{piece, same}
use Rattle.cn_json.proofs.plan.write_role.Goals as goal

pub returns : goal.returns
unfolding role_data
returns c =
    let operation : c.operation_name.result.now ≡ operation_name_of c.args.plan.now c.args.role = search rules in
    let team : c.name.result.now ≡ team_name (team_of (length c.args.plan.now.choice.a) c.args.role) = search rules in
    let judges = same c.in_ok-array_at.ensures (ap (λ (t : TypeTable). member_tokens (codes "judges") (list_data (pair_data t) c.judged_pairs.result.now)) c.table-table.ensures) in
    rw (← operation, ← team, ← c.judged_pairs.ensures.pairs) (piece c.in_ok-begin_object.ensures (piece judges c.last_members.ensures))
