use Rattle.cn_meetings.specs.Sights.{sight_of}
use Rattle.cn_divisions.proofs.Merging.{SoFarTo}
use Rattle.cn_divisions.proofs.components.with_joined.Given as goal

abbrev pub invariant-loop-f : goal.invariant-loop-f
invariant-loop-f l = SoFarTo l.setting.table.now (sight_of l.look.sight) l.fn.start l.setting.stock.now.operations.items l.fn.g l.f l.merging
