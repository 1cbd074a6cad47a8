use Rattle.cn_unread_laws.proofs.UnreadNumbers.{unique}
use Rattle.cn_unread_laws.proofs.laws.one_number_without_reads.Goals as goal

pub returns : goal.returns
returns c = unique
