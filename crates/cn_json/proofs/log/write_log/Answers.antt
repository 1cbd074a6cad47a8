use Rattle.cn_json.specs.Log.{log_data}
use Rattle.cn_json.proofs.Pieces.{piece}
use Rattle.cn_json.proofs.log.write_log.Goals as goal

pub returns : goal.returns
unfolding log_data
returns c = piece c.in_ok-begin_with_answers.ensures
    (piece c.in_ok-begin_array_at.ensures (piece c.in_ok-write_each_entry.ensures c.end_object.ensures))
