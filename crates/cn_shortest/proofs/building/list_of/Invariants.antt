use Rattle.std.proofs.Common.{◌≡◌, ◌++◌, ◌-◌}
use Rattle.cn_shortest.specs.Sizes.{sizes_from, sizes_of}
use Rattle.cn_shortest.proofs.building.list_of.Given as goal

-- what is left stands behind
abbrev pub invariant-loop-smaller : goal.invariant-loop-smaller
invariant-loop-smaller l = l.list.items ++ sizes_from l.counts (8 - l.smaller) ≡ sizes_of l.counts
