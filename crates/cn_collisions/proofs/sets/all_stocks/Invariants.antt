use Rattle.std.proofs.Common.{◌+◌}
use Rattle.cn_collisions.specs.Levels.{AreLevels}
use Rattle.cn_collisions.proofs.sets.all_stocks.Given as goal

abbrev pub invariant-loop-size : goal.invariant-loop-size
invariant-loop-size l = AreLevels l.fn.operations (l.size + 1) l.levels.items
