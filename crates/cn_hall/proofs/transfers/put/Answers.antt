use Rattle.cn_hall.proofs.transfers.put.Goals as goal

pub push_as-requires-clause-rule : goal.push_as-requires-clause-rule
push_as-requires-clause-rule g c = rw c.in-Err.ensures.rule.0 (rw c.in-Err.ensures.rule.1 (rw c.try_push_as.ensures.queue.1 (c.requires.may, c.requires.free)))
