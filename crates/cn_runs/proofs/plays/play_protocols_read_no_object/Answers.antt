use Rattle.cn_runs.proofs.Unread.{reads_none}
use Rattle.cn_runs.proofs.plays.play_protocols_read_no_object.Goals as goal

pub returns : goal.returns
returns g c = reads_none
