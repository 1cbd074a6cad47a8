use Rattle.cn_choice.proofs.OrderLemmas.Walks.{in_order}
use Rattle.cn_choice.proofs.laws.pair_in_order.Goals as goal

pub returns : goal.returns
returns c = in_order
