use Rattle.std.proofs.Common.{◌≡◌, All, map, take}
use Rattle.cn_pairs.specs.SetNumbers.{IsSetNumber, numbers, set_of}
use Rattle.cn_pairs.proofs.restricted.numbers_of.Given as goal

-- the sets so far, each with its number
abbrev pub invariant-loop-set : goal.invariant-loop-set
invariant-loop-set g l = record {
  listed : map set_of l.told.items ≡ map (λ set. numbers set.items) (take l.set-index l.sets);
  told_are : All (IsSetNumber l.table) l.told.items;
}
