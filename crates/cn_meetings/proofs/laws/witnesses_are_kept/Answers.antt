use Rattle.cn_meetings.proofs.Renaming.{renaming}
use Rattle.cn_meetings.proofs.Witnesses.{fewer_processes, fewer_teams, one_operation, seeing_more}
use Rattle.cn_meetings.proofs.laws.witnesses_are_kept.Goals as goal

pub returns-clause-fewer_processes : goal.returns-clause-fewer_processes
returns-clause-fewer_processes c = fewer_processes

pub returns-clause-fewer_teams : goal.returns-clause-fewer_teams
returns-clause-fewer_teams c = fewer_teams

pub returns-clause-seeing_more : goal.returns-clause-seeing_more
returns-clause-seeing_more c = seeing_more

pub returns-clause-one_operation : goal.returns-clause-one_operation
returns-clause-one_operation c = one_operation

pub returns-clause-other_names : goal.returns-clause-other_names
returns-clause-other_names c = λ t M processes others role team within apart witness. renaming t M processes others role within apart team witness
