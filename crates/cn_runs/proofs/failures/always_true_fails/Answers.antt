use Rattle.cn_runs.proofs.Races.{true_fails}
use Rattle.cn_runs.proofs.failures.always_true_fails.Goals as goal

pub returns-clause-fails : goal.returns-clause-fails
returns-clause-fails c = true_fails
