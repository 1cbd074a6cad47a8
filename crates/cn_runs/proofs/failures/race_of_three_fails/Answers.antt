use Rattle.cn_runs.proofs.Races.{three_fail}
use Rattle.cn_runs.proofs.failures.race_of_three_fails.Goals as goal

pub returns-clause-fails : goal.returns-clause-fails
returns-clause-fails c = three_fail
