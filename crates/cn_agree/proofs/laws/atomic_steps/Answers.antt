use Rattle.cn_agree.proofs.AtomicLemmas.{atomic}
use Rattle.cn_agree.proofs.laws.atomic_steps.Goals as goal

pub returns : goal.returns
returns g c = λ P p. atomic P p
