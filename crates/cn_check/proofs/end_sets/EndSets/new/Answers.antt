use Rattle.std.proofs.Common.{◌+◌, ◌*◌}
use Rattle.cn_check.proofs.SetLemmas.{zero_at}
use Rattle.cn_check.proofs.end_sets.EndSets.new.Goals as goal

pub returns : goal.returns
returns c used state = zero_at 4096 (16 * used + state)
