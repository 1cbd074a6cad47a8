use Rattle.cn_check.proofs.WitnessLemmas.{witness_fits}
use Rattle.cn_check.proofs.laws.accepted_witnesses_fit.Goals as goal

pub returns : goal.returns
returns c = witness_fits
