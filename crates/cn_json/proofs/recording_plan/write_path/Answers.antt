use Rattle.std.proofs.Common.{ap, codes}
use Rattle.cn_proto.specs.Plan.{Plan}
use Rattle.cn_json.specs.Plans.{path_data}
use Rattle.cn_json.specs.RecordingPlans.{life_path_data}
use Rattle.cn_json.specs.Tokens.{member_tokens}
use Rattle.cn_json.proofs.Pieces.{piece, same}
use Rattle.cn_json.proofs.recording_plan.write_path.Goals as goal

pub returns : goal.returns
unfolding life_path_data
returns c =
    let places = same c.in_ok-write_places.ensures (ap (λ (p : Plan). member_tokens (codes "places") (path_data p c.args.process)) c.plan.ensures) in
    rw (← c.life_steps-steps.ensures.steps) (piece c.in_ok-begin_object.ensures (piece places c.last_members.ensures))
