use Rattle.cn_joins.proofs.TwoProcesses.{two}
use Rattle.cn_joins.proofs.laws.two_processes.Goals as goal

pub returns : goal.returns
returns c t = two t
