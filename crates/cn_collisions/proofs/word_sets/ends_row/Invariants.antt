use Rattle.std.proofs.Common.{◌≡◌, length}
use Rattle.cn_collisions.specs.Exact.{AreEndsAfter}
use Rattle.cn_collisions.proofs.word_sets.ends_row.Given as goal

abbrev pub invariant-loop-start : goal.invariant-loop-start
invariant-loop-start l = record {
  long : length l.row ≡ 16;
  ends : AreEndsAfter l.setting.table.now l.setting.stock.now.operations.items l.fn.count l.start l.row;
}
