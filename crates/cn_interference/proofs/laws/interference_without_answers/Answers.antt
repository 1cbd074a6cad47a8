use Rattle.cn_interference.proofs.ThirdProcess.{all_hide, none_hidden, not_for_two}
use Rattle.cn_interference.proofs.laws.interference_without_answers.Goals as goal

pub returns : goal.returns
returns c = record {
  refuted = λ t table all none. not_for_two t (all_hide t table all none);
  none = λ t limit table all none. none_hidden t limit (all_hide t table all none);
}
