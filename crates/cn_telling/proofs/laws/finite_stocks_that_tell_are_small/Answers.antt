use Rattle.cn_stocks.proofs.LastingLemmas.Numbers.{never_above}
use Rattle.cn_stocks.proofs.Witnesses.{to_witness}
use Rattle.cn_telling.proofs.TellLemmas.{some_tells_splits}
use Rattle.cn_telling.proofs.laws.finite_stocks_that_tell_are_small.Goals as goal

pub returns : goal.returns
returns c t closed all n some many h = never_above t closed all n some many (to_witness t n (some_tells_splits t n h))
