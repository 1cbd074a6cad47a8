use Rattle.cn_meetings.proofs.Finest.{coarser, finest}
use Rattle.cn_meetings.proofs.Witnesses.{joined_decide}
use Rattle.cn_meetings.proofs.laws.finest_division.Goals as goal

pub returns-clause-joined : goal.returns-clause-joined
returns-clause-joined c = joined_decide

pub returns-clause-finest : goal.returns-clause-finest
returns-clause-finest c = λ t M processes n few. finest t M processes n few

pub returns-clause-coarser : goal.returns-clause-coarser
returns-clause-coarser c = λ t M processes finest team is. coarser t M processes finest team is
