use Rattle.std.proofs.Common.{◌≡◌, drop}
use Rattle.cn_pairs.specs.SetNumbers.{numbers}
use Rattle.cn_sentences.specs.Triangle.{set_number}
use Rattle.cn_sentences.proofs.triangle.set_number.Given as goal

-- none of the sets so far is the one
abbrev pub invariant-loop-set : goal.invariant-loop-set
invariant-loop-set l = set_number l.sets (numbers l.operations) ≡ set_number (drop l.set-index l.sets) (numbers l.operations)
