use Rattle.std.proofs.Common.{length}
use Rattle.cn_trees.specs.Tree.{path_of}
use Rattle.cn_trees.proofs.Agreeing.{most_four, steps_four, steps_three}
use Rattle.cn_trees.proofs.Paths.{path_short}
use Rattle.cn_trees.proofs.Places.{node_known}
use Rattle.cn_trees.proofs.laws.steps_of_plan_trees.Goals as goal

pub returns-clause-three : goal.returns-clause-three
returns-clause-three c = λ T p none. steps_three T p none (length (path_of T p))

pub returns-clause-four : goal.returns-clause-four
returns-clause-four c = λ T p each. steps_four T p each (length (path_of T p))

pub returns-clause-most : goal.returns-clause-most
returns-clause-most c = λ T p. most_four T p (length (path_of T p))

pub returns-clause-levels : goal.returns-clause-levels
returns-clause-levels c = λ T p. path_short T.teams 0 0 1 p

pub returns-clause-nodes : goal.returns-clause-nodes
returns-clause-nodes c = λ T p i at. node_known T p i at
