use Rattle.cn_runs.proofs.Races.{own_fails}
use Rattle.cn_runs.proofs.failures.own_input_fails.Goals as goal

pub returns-clause-fails : goal.returns-clause-fails
returns-clause-fails c = own_fails
