use Rattle.cn_reasons.proofs.ReasonLemmas.{reason_refutes}
use Rattle.cn_reasons.proofs.laws.reasons_refute.Goals as goal

pub returns : goal.returns
returns c t choice r = reason_refutes t choice r
