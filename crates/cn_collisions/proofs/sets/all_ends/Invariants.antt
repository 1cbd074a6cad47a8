use Rattle.cn_collisions.specs.Levels.{AreAllSets}
use Rattle.cn_collisions.specs.WordSets.{IsEnds}
use Rattle.cn_collisions.proofs.sets.all_ends.Given as goal

abbrev pub invariant-loop-size : goal.invariant-loop-size
invariant-loop-size l = AreAllSets (IsEnds l.table) l.stocks l.size l.ends.items
