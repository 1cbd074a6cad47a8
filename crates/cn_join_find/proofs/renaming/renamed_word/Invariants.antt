use Rattle.std.proofs.Common.{◌≡◌, map, take}
use Rattle.std.specs.Prelude.{slice_index}
use Rattle.cn_join_find.proofs.renaming.renamed_word.Given as goal

-- the numbers of the operations so far
abbrev pub invariant-loop-operation : goal.invariant-loop-operation
invariant-loop-operation l = l.word.items ≡ map (slice_index (map (λ o. o.0) l.numbers)) (take l.operation-index l.old.word)
