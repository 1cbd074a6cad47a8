use Rattle.cn_meetings.proofs.Witnesses.{judged, judgement}
use Rattle.cn_meetings.proofs.laws.witnesses_are_judged.Goals as goal

pub returns-clause-judged : goal.returns-clause-judged
returns-clause-judged c = judged

pub returns-clause-judgement : goal.returns-clause-judgement
returns-clause-judgement c = judgement
