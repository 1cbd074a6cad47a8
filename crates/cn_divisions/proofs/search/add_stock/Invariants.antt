use Rattle.std.proofs.Common.{ℕ, ◌<◌}
use Rattle.std.specs.Prelude.{IsBitSet}
use Rattle.cn_divisions.specs.Joins.{IsSplit}
use Rattle.cn_meetings.specs.Sights.{sight_of}
use Rattle.cn_divisions.proofs.Extending.{FoundTo}
use Rattle.cn_divisions.proofs.search.add_stock.Given as goal

-- the divisions from the start states so far
abbrev pub invariant-loop-start : goal.invariant-loop-start
invariant-loop-start l = record {
  found_to : FoundTo l.setting.table.now (sight_of l.look.sight) l.setting.stock.now.operations.items l.fn.found.items l.start l.found.items;
  split : (q : ℕ) → q < l.start → IsSplit l.setting.table.now (sight_of l.look.sight) q l.setting.stock.now.operations.items → IsBitSet l.set q;
}
