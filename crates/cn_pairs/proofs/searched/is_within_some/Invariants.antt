use Rattle.std.proofs.Common.{All, take}
use Rattle.cn_pairs.specs.SetNumbers.{numbers}
use Rattle.cn_pairs.specs.Smallest.{IsWithinOther}
use Rattle.cn_pairs.proofs.searched.is_within_some.Given as goal

-- it is within none of those so far
abbrev pub invariant-loop-larger : goal.invariant-loop-larger
invariant-loop-larger l = All (λ s. ¬ IsWithinOther (numbers l.set) l.number s) (take l.larger-index l.known)
