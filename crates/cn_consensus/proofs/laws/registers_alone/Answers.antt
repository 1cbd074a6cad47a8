use Rattle.cn_consensus.proofs.RegistersAlone.{no_protocol}
use Rattle.cn_consensus.proofs.laws.registers_alone.Goals as goal

pub returns : goal.returns
returns g c = no_protocol c.witnesses_are_live.ensures
