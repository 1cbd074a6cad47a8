use Rattle.cn_interference.proofs.ThirdProcess.{not_for_three}
use Rattle.cn_interference.proofs.ThirdProcess as third
use Rattle.cn_interference.proofs.laws.two_states.Goals as goal

pub returns : goal.returns
returns c = record {
  interfere = third.two_states;
  refuted = λ t table two. not_for_three t (third.two_states t table two);
}
