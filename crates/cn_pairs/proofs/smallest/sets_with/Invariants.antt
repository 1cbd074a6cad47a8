use Rattle.std.proofs.Common.{◌≡◌, map, take}
use Rattle.cn_pairs.specs.SetNumbers.{set_lists, set_of}
use Rattle.cn_pairs.proofs.FirstSets.{with_number}
use Rattle.cn_pairs.proofs.smallest.sets_with.Given as goal

-- the first of those so far
abbrev pub invariant-loop-set : goal.invariant-loop-set
invariant-loop-set l =
    set_lists l.found ≡ map set_of (take 12 (with_number l.number (take l.set-index l.sets)))
