use Rattle.std.proofs.Common.{◌≡◌, All, map, take}
use Rattle.cn_changes.specs.Told.{IsChangeNumber}
use Rattle.cn_changes.proofs.numbers.numbers_of.Given as goal

-- the changes so far, each with its number
abbrev pub invariant-loop-change : goal.invariant-loop-change
invariant-loop-change g l = record {
  listed : map (λ r. r.change) l.told.items ≡ take l.change-index l.changes;
  told_are : All (IsChangeNumber l.kind l.table) l.told.items;
}
