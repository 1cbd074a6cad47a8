use Rattle.cn_json.specs.Log.{service_data}
use Rattle.cn_json.proofs.Pieces.{piece}
use Rattle.cn_json.proofs.log.write_service.Goals as goal

pub returns : goal.returns
unfolding service_data
returns c = piece c.in_ok-begin_with_answers.ensures
    (piece c.in_ok-begin_array_at.ensures (piece c.in_ok-write_each_entry.ensures
    (piece c.in_ok-begin_array_at-2.ensures (piece (rw c.schedule.ensures at c.in_ok-write_each_event.ensures) c.end_object.ensures))))
