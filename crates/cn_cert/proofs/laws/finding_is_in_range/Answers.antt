use Rattle.cn_cert.proofs.FindingRanges.{finding_in_range}
use Rattle.cn_cert.proofs.laws.finding_is_in_range.Goals as goal

pub returns : goal.returns
returns c = finding_in_range c.short_orders.ensures c.process_of_pair.ensures c.live_list.ensures.listed
