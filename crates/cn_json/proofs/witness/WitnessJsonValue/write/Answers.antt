use Rattle.cn_json.specs.Witness.{witness_data}
use Rattle.cn_json.proofs.Pieces.{piece}
use Rattle.cn_json.proofs.witness.WitnessJsonValue.write.Goals as goal

pub returns : goal.returns
unfolding witness_data
returns c = rw (← c.deref.ensures.value, c.state_name.ensures)
    (piece c.in_ok-begin_object.ensures (piece c.in_ok-begin_array_at.ensures (piece c.in_ok-last_processes.ensures c.last_members.ensures)))
