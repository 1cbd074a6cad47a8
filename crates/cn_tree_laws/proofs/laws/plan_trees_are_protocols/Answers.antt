use Rattle.cn_tree_laws.proofs.Protocols.{consensus, of_type, unread}
use Rattle.cn_tree_laws.proofs.laws.plan_trees_are_protocols.Goals as goal

pub returns-clause-of_type : goal.returns-clause-of_type
returns-clause-of_type c = λ T n of few. of_type T n of few

pub returns-clause-consensus : goal.returns-clause-consensus
returns-clause-consensus c = λ T n closed of plan few.
    consensus T n closed of few (λ inputs schedule all. c.plan_trees_agree.ensures T n plan few inputs schedule all)
    (λ p. c.steps_of_plan_trees.ensures.most T p) (λ p. c.steps_of_plan_trees.ensures.levels T p)

pub returns-clause-unread : goal.returns-clause-unread
returns-clause-unread c = λ T n none few. unread T n none few
