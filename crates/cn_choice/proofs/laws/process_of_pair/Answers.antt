use Rattle.std.proofs.Common.{length}
use Rattle.cn_choice.proofs.OrderLemmas.Walks.{pair_takes_part}
use Rattle.cn_choice.proofs.laws.process_of_pair.Goals as goal

pub returns : goal.returns
returns c t choice team j pair (order, is, begins, seen) = pair_takes_part t choice (length choice.operations) order j pair is.known seen
