use Rattle.std.proofs.Common.{◌≡◌, flat_map, take}
use Rattle.cn_changes.specs.Pairs.{told_if}
use Rattle.cn_changes.proofs.pairs.raising_of.Given as goal

-- the pairs so far
abbrev pub invariant-loop-one : goal.invariant-loop-one
invariant-loop-one l = l.raising.items ≡ flat_map (told_if l.number) (take l.one-index l.told)
