use Rattle.cn_unread.proofs.Example.{some_signs}
use Rattle.cn_unread.proofs.laws.some_type_has_signs.Goals as goal

pub returns : goal.returns
returns c = some_signs
