use Rattle.cn_meetings.proofs.Parts.{parting}
use Rattle.cn_meetings.proofs.laws.parting_operations_are_told.Goals as goal

pub returns : goal.returns
returns c = λ t k w part processes team few. parting t k w part team processes few
