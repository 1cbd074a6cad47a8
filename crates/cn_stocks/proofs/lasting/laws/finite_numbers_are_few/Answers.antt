use Rattle.cn_stocks.proofs.LastingLemmas.Numbers.{never_above}
use Rattle.cn_stocks.proofs.lasting.laws.finite_numbers_are_few.Goals as goal

pub returns : goal.returns
returns c t closed all n some enough = never_above t closed all n some enough
