use Rattle.cn_divisions.specs.Joins.{AreComponentsSoFar}
use Rattle.cn_meetings.specs.Sights.{sight_of}
use Rattle.cn_divisions.proofs.components.components.Given as goal

abbrev pub invariant-loop-g : goal.invariant-loop-g
invariant-loop-g l = AreComponentsSoFar l.setting.table.now (sight_of l.look.sight) l.fn.start l.setting.stock.now.operations.items l.g l.teams
