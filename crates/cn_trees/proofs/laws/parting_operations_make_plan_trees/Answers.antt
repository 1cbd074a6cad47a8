use Rattle.std.proofs.Common.{suc, ◌≡◌, ◌+◌, arith}
use Rattle.cn_trees.specs.FullTrees.{full}
use Rattle.cn_trees.specs.Tree.{comes_to, team_in}
use Rattle.cn_trees.proofs.FullTrees.{full_are, team_below}
use Rattle.cn_trees.proofs.laws.parting_operations_make_plan_trees.Goals as goal

pub returns-clause-tree : goal.returns-clause-tree
returns-clause-tree c = λ t k h w part node. (
    let f = full_are k h in
    c.parting_operations_are_told.ensures t k w part (comes_to (full k h) node) (team_in (full k h) node) (λ p came. team_below k (full k h) (omega (arith, f.1)) f.3 node p came))

pub returns-clause-processes : goal.returns-clause-processes
returns-clause-processes c = λ t k h w. (let e : h + 1 ≡ suc h = omega arith in rw e (full_are k h).0)

pub returns-clause-levels : goal.returns-clause-levels
returns-clause-levels c = λ k h. (full_are k h).2

pub returns-clause-teams : goal.returns-clause-teams
returns-clause-teams c = λ k h node p came. (let f = full_are k h in team_below k (full k h) (omega (arith, f.1)) f.3 node p came)
