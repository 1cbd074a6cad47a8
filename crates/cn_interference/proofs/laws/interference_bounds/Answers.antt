use Rattle.cn_interference.proofs.ThirdProcess.{not_for_three, two_at_most}
use Rattle.cn_interference.proofs.laws.interference_bounds.Goals as goal

pub returns : goal.returns
returns c = record { refuted = not_for_three; number = two_at_most }
