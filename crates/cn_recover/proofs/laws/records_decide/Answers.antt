use Rattle.cn_recover.proofs.StockRecords.{to_recording, to_records}
use Rattle.cn_recover.proofs.laws.records_decide.Goals as goal

pub returns : goal.returns
returns c t n some = (to_records t n, to_recording t n)
