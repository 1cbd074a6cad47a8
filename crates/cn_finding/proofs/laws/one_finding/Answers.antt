use Rattle.cn_finding.proofs.OneFinding as one
use Rattle.cn_finding.proofs.laws.one_finding.Goals as goal

pub returns : goal.returns
returns c t = one.one_finding t (c.greatest_is_unique.ensures t) (c.collision_or_witness.ensures.one t)
