use Rattle.cn_table.proofs.Restrictions.{restricted}
use Rattle.cn_table.proofs.restriction.restriction_is_a_table.Goals as goal

pub returns : goal.returns
returns c = restricted
