use Rattle.std.proofs.Common.{◌≡◌, ◌++◌, flat_map, map, string_bytes, take}
use Rattle.cn_pairs.specs.SetNumbers.{numbers}
use Rattle.cn_sentences.specs.Smallest.{sentence}
use Rattle.cn_sentences.proofs.smallest.push_sentences.Given as goal

-- the sentences so far
abbrev pub invariant-loop-set : goal.invariant-loop-set
invariant-loop-set l = string_bytes l.text ≡ string_bytes l.initial.text ++ flat_map (sentence l.mark l.table l.number) (map (λ set. numbers set.items) (take l.set-index l.sets))
