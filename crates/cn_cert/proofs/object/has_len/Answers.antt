use Rattle.cn_cert.proofs.ValueLemmas.{members_len-members_view}
use Rattle.cn_cert.proofs.object.has_len.Goals as goal

pub returns : goal.returns
returns c = rw (c.len.ensures.len, members_len-members_view c.args.map.now.entries)
