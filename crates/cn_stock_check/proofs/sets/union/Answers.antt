use Rattle.cn_stock_check.proofs.SetLemmas.{in_either}
use Rattle.cn_stock_check.proofs.sets.union.Goals as goal

pub returns : goal.returns
returns c = in_either c.args.set c.args.other
