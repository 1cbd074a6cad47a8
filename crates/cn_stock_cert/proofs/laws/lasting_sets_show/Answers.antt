use Rattle.cn_stock_cert.proofs.Lasts.{lasts}
use Rattle.cn_stock_cert.proofs.laws.lasting_sets_show.Goals as goal

pub returns : goal.returns
returns c t s are = lasts t s are
