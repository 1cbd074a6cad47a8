use Rattle.cn_agree.proofs.Reaching.{nodes_are, locals_are, inputs_are, no_input, not_begun, begun_stays}
use Rattle.cn_agree.proofs.Fixing.{keeps_consensus, fixed_stays}
use Rattle.cn_agree.proofs.laws.rounds_keep_consensus.Goals as goal

pub returns-clause-consensus : goal.returns-clause-consensus
returns-clause-consensus g c = λ P n nodes team schedule w sound r. keeps_consensus P n nodes team sound r

pub returns-clause-fixed : goal.returns-clause-fixed
returns-clause-fixed g c = λ P n nodes team schedule w sound r p x lt h. fixed_stays P n nodes team sound r p lt x h

pub returns-clause-begun : goal.returns-clause-begun
returns-clause-begun g c = λ P n nodes team schedule w sound r p lt. (no_input P n nodes team sound r p lt, not_begun P n nodes team sound r p lt)

pub returns-clause-stays_begun : goal.returns-clause-stays_begun
returns-clause-stays_begun g c = λ P n nodes team schedule w sound r p q lt begun. begun_stays P n nodes team sound r p q lt begun

pub returns-clause-sizes : goal.returns-clause-sizes
returns-clause-sizes g c = λ P n nodes team schedule w sound r. (nodes_are P n nodes team sound r, locals_are P n nodes team sound r, inputs_are P n nodes team sound r)
