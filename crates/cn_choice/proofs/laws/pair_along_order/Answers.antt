use Rattle.cn_choice.proofs.OrderLemmas.Walks.{pair_of-response_of}
use Rattle.cn_choice.proofs.laws.pair_along_order.Goals as goal

pub returns : goal.returns
returns c = pair_of-response_of
