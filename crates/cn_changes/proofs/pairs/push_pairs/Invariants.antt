use Rattle.std.proofs.Common.{◌≡◌, ◌+◌, ◌++◌, flat_map, take}
use Rattle.cn_changes.specs.Pairs.{pair_with}
use Rattle.cn_changes.specs.declared.pairs.TheConstants.{MOST_PAIRS}
use Rattle.cn_changes.proofs.pairs.push_pairs.Given as goal

-- the pairs so far
abbrev pub invariant-loop-second : goal.invariant-loop-second
invariant-loop-second l =
    l.pairs.items ≡ take (MOST_PAIRS + 1) (l.initial.pairs.items ++ flat_map (pair_with l.first) (take l.second-index l.changes))
