use Rattle.std.proofs.Common.{◌≡◌, length}
use Rattle.cn_collisions.specs.Exact.{AreEndsUpTo}
use Rattle.cn_collisions.proofs.word_sets.ends_union.Given as goal

abbrev pub invariant-loop-start : goal.invariant-loop-start
invariant-loop-start l = record {
  long : length l.all ≡ 16;
  ends : AreEndsUpTo l.setting.table.now l.setting.stock.now.operations.items l.setting.size l.start l.all;
}
