use Rattle.std.proofs.Common.{map, take}
use Rattle.cn_pairs.specs.Firsts.{AreFirstWith}
use Rattle.cn_pairs.specs.SetNumbers.{numbers, set_lists}
use Rattle.cn_pairs.specs.Smallest.{HasNumberWith}
use Rattle.cn_pairs.proofs.searched.first_of.Given as goal

-- the first of those so far
abbrev pub invariant-loop-set : goal.invariant-loop-set
invariant-loop-set g l =
    AreFirstWith (HasNumberWith l.table l.number) 12 (map (λ set. numbers set.items) (take l.set-index l.sets)) (set_lists l.found)
