use Rattle.cn_unread_laws.proofs.LastingExample.{some_lasts}
use Rattle.cn_unread_laws.proofs.laws.some_type_lasts.Goals as goal

pub returns : goal.returns
returns c = some_lasts
