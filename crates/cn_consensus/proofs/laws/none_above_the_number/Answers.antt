use Rattle.cn_consensus.proofs.Numbers.{above, none_at_all}
use Rattle.cn_consensus.proofs.laws.none_above_the_number.Goals as goal

pub returns : goal.returns
returns g c = record { found = above; none = none_at_all }
