use Rattle.std.proofs.Common.{◌≡◌, ◌+◌, flat_map, take}
use Rattle.cn_changes.specs.Pairs.{pairs_with}
use Rattle.cn_changes.specs.declared.pairs.TheConstants.{MOST_PAIRS}
use Rattle.cn_changes.proofs.pairs.pairs_among.Given as goal

-- the pairs so far
abbrev pub invariant-loop-first : goal.invariant-loop-first
invariant-loop-first l = l.pairs.items ≡ take (MOST_PAIRS + 1) (flat_map (pairs_with l.changes) (take l.first-index l.changes))
