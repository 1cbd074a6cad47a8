use Rattle.std.proofs.Common.{◌≡◌, map, take}
use Rattle.cn_join_find.specs.Renaming.{renamed}
use Rattle.cn_join_find.proofs.renaming.renamed_joins.Given as goal

-- the joins so far
abbrev pub invariant-loop-join : goal.invariant-loop-join
invariant-loop-join l = l.joins.items ≡ map (renamed (map (λ o. o.0) l.numbers)) (take l.join-index l.old)
