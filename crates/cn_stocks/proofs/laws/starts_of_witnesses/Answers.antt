use Rattle.cn_stocks.proofs.Witnesses.{to_splits_from}
use Rattle.cn_stocks.proofs.laws.starts_of_witnesses.Goals as goal

pub returns : goal.returns
returns c t n choice some is w = (is.state_known, to_splits_from t n choice some is w)
