use Rattle.cn_recover.proofs.NumberBounds.{found_by_stocks}
use Rattle.cn_recover.proofs.number.greatest_in.Goals as goal

pub returns : goal.returns
returns g c = found_by_stocks c.args.table.now c.args.most (c.records_decide.ensures c.args.table.now) c.greatest_record.result c.greatest_record.ensures
