use Rattle.cn_crashes.proofs.Search.{some_records}
use Rattle.cn_crashes.proofs.laws.one_type_of_several.Goals as goal

pub returns : goal.returns
returns g c = some_records
