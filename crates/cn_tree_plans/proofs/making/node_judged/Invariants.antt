use Rattle.cn_tree_plans.specs.Made.{AreLists}
use Rattle.cn_tree_plans.proofs.making.node_judged.Given as goal

-- the lists of the processes so far
abbrev pub invariant-loop-k : goal.invariant-loop-k
invariant-loop-k l = AreLists l.table l.meeting l.sizes l.k l.lists.items
