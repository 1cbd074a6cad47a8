use Rattle.cn_interference.proofs.RuleLemmas.{not_above, one_by_rule}
use Rattle.cn_interference.proofs.laws.rules_bound.Goals as goal

pub returns : goal.returns
returns c = record { refuted = not_above; one = one_by_rule }
