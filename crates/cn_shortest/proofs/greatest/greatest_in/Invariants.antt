use Rattle.std.proofs.Common.{◌+◌, ◌-◌, Bool, length}
use Rattle.cn_meetings.specs.Meeting.{Sight}
use Rattle.cn_table.specs.TypeTable.{TypeTable}
use Rattle.cn_tree_costs.specs.Least.{AreRoots}
use Rattle.cn_shortest.specs.Loads.{all_roots}
use Rattle.cn_shortest.proofs.MostProcesses.{NoneAbove}
use Rattle.cn_shortest.proofs.greatest.greatest_in.Given as goal

-- there is no tree for more processes than the next ones
abbrev pub invariant-loop-less : goal.invariant-loop-less
invariant-loop-less l =
    let roots = l.found.roots.items in
    (t : TypeTable) (allowed : Sight → Bool) → AreRoots t allowed (length roots + 1) (all_roots roots) → NoneAbove t allowed l.most (l.most - l.less)
