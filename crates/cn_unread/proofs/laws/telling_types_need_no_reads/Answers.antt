use Rattle.cn_unread.proofs.Telling.{by_looks, by_responses}
use Rattle.cn_unread.proofs.laws.telling_types_need_no_reads.Goals as goal

pub returns : goal.returns
returns c = record { responses = by_responses; looks = by_looks }
