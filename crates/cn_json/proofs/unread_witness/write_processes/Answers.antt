use Rattle.cn_json.proofs.Pieces.{piece}
use Rattle.cn_json.proofs.unread_witness.write_processes.Goals as goal

pub returns : goal.returns
returns c = piece c.in_ok-begin_array_at.ensures c.last_processes.ensures
