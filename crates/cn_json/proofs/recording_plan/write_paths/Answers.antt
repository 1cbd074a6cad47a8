use Rattle.std.proofs.Common.{map}
use Rattle.std.specs.List.{range_with_len}
use Rattle.cn_proto.specs.Plan.{processes_of}
use Rattle.cn_json.specs.RecordingPlans.{life_path_data}
use Rattle.cn_json.proofs.Arrays.{each_closed}
use Rattle.cn_json.proofs.Pieces.{piece, same}
use Rattle.cn_json.proofs.recording_plan.write_paths.Goals as goal

pub returns : goal.returns
returns c = piece c.in_ok-begin_array_at.ensures
    (same (piece c.in_ok-write_each_path.ensures c.end_array.ensures) (each_closed (map (life_path_data c.args.plan.now) (range_with_len 0 (processes_of c.args.plan.now.plan)))))
