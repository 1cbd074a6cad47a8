use Rattle.cn_reasons.proofs.GroupTwins.{same_in_group}
use Rattle.cn_reasons.proofs.SightLemmas.{same_sights}
use Rattle.cn_reasons.proofs.laws.like_processes.Goals as goal

pub returns-clause-twins : goal.returns-clause-twins
returns-clause-twins c t choice p twins team = same_sights t choice p twins (λ other j r q. c.told_sights.ensures t choice other j r q) team

pub returns-clause-group : goal.returns-clause-group
returns-clause-group c t choice = same_in_group t choice (λ p twins team. same_sights t choice p twins (λ other j r q. c.told_sights.ensures t choice other j r q) team)
