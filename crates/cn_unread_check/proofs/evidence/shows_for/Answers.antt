use Rattle.cn_unread_check.proofs.evidence.shows_for.Goals as goal

pub returns-in-Further-clause-shown : goal.returns-in-Further-clause-shown
returns-in-Further-clause-shown c = rw c.in-Further.is c.tells.ensures
