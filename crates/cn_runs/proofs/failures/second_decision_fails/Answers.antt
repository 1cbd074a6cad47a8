use Rattle.cn_runs.proofs.Races.{answers_fail}
use Rattle.cn_runs.proofs.failures.second_decision_fails.Goals as goal

pub returns-clause-fails : goal.returns-clause-fails
returns-clause-fails c = answers_fail
