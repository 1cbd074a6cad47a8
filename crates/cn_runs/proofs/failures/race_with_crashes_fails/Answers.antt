use Rattle.cn_runs.proofs.Races.{crashes_fail}
use Rattle.cn_runs.proofs.failures.race_with_crashes_fails.Goals as goal

pub returns-clause-fails : goal.returns-clause-fails
returns-clause-fails c = crashes_fail
