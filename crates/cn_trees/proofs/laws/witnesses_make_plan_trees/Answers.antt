use Rattle.cn_trees.specs.Tree.{comes_to, processes_of, team_in}
use Rattle.cn_trees.proofs.Places.{known}
use Rattle.cn_trees.proofs.laws.witnesses_make_plan_trees.Goals as goal

pub returns-clause-judgement : goal.returns-clause-judgement
returns-clause-judgement c = λ T witnesses. (
  λ node. (c.witnesses_are_judged.ensures.judgement T.table (T.meeting node) (comes_to T.teams node) (processes_of T) (team_in T.teams node) (λ p h. known T.teams node p h) (witnesses node)).0,
  λ node. (c.witnesses_are_judged.ensures.judgement T.table (T.meeting node) (comes_to T.teams node) (processes_of T) (team_in T.teams node) (λ p h. known T.teams node p h) (witnesses node)).1,
)

pub returns-clause-witnesses : goal.returns-clause-witnesses
returns-clause-witnesses c = λ T plan node. c.witnesses_are_judged.ensures.judged T.table (T.meeting node) (comes_to T.teams node) (team_in T.teams node) (T.judge node) (plan node)
