use Rattle.cn_check.proofs.TurnLemmas.{one_first}
use Rattle.cn_check.proofs.VerdictLemmas.{no_fault}
use Rattle.cn_check.proofs.laws.one_verdict.Goals as goal

pub returns-clause-accepted : goal.returns-clause-accepted
returns-clause-accepted c t certificate e is = no_fault t certificate is e

pub returns-clause-first : goal.returns-clause-first
returns-clause-first c = one_first
