use Rattle.cn_recover.proofs.number.number_below.Goals as goal

pub without_limit-requires-clause-found : goal.without_limit-requires-clause-found
without_limit-requires-clause-found g c = (c.most_processes.result, c.most_processes.ensures.all, c.most_processes.ensures.least, c.in_ok-found.ensures)
