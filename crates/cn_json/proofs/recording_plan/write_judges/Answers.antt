use Rattle.std.proofs.Common.{length, map}
use Rattle.std.specs.List.{range_with_len}
use Rattle.cn_json.specs.RecordingPlans.{judged_state_data}
use Rattle.cn_json.proofs.Arrays.{each_closed}
use Rattle.cn_json.proofs.Pieces.{piece, same}
use Rattle.cn_json.proofs.recording_plan.write_judges.Goals as goal

pub returns : goal.returns
returns c = piece c.in_ok-begin_array_at.ensures
    (same (piece c.in_ok-write_each_judged.ensures c.end_array.ensures) (each_closed (map (judged_state_data c.args.plan.now) (range_with_len 0 (length c.args.plan.now.plan.table.states)))))
