use Rattle.cn_collisions.specs.Levels.{AreAllSets}
use Rattle.cn_collisions.specs.WordSets.{IsShown}
use Rattle.cn_collisions.proofs.sets.all_shown.Given as goal

abbrev pub invariant-loop-size : goal.invariant-loop-size
invariant-loop-size g l = AreAllSets (IsShown l.table) l.stocks l.size l.shown.items
