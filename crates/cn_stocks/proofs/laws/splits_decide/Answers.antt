use Rattle.cn_stocks.proofs.Witnesses.{to_splits, to_witness}
use Rattle.cn_stocks.proofs.laws.splits_decide.Goals as goal

pub returns : goal.returns
returns c t n some = (to_splits t n some, to_witness t n)
