use Rattle.cn_interference.proofs.ThirdProcess.{none_hidden, not_for_two}
use Rattle.cn_interference.proofs.TwoProcesses.{all_hide_if_none}
use Rattle.cn_interference.proofs.laws.hidden_operations.Goals as goal

pub returns : goal.returns
returns c = record { refuted = not_for_two; none = none_hidden; hides = all_hide_if_none }
