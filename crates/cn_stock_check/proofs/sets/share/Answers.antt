use Rattle.cn_stock_check.proofs.SetLemmas.{in_both}
use Rattle.cn_stock_check.proofs.sets.share.Goals as goal

pub returns : goal.returns
returns c = in_both c.args.set c.args.other c.ranges.set.fits
