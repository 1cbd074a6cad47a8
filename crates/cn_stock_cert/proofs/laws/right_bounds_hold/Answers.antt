use Rattle.cn_stock_cert.proofs.Bounds.{right}
use Rattle.cn_stock_cert.proofs.laws.right_bounds_hold.Goals as goal

pub returns : goal.returns
returns c t certificate is = right t certificate is
