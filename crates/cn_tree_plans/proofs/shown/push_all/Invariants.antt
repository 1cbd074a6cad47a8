use Rattle.std.proofs.Common.{◌≡◌, ◌++◌, ◌-◌, drop, take}
use Rattle.cn_tree_plans.proofs.shown.push_all.Given as goal

-- the operations so far
abbrev pub invariant-loop-k : goal.invariant-loop-k
invariant-loop-k l = l.list.items
    ≡ l.initial.list.items ++ take (l.k - l.from) (drop l.from l.meeting.operations)
