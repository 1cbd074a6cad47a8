use Rattle.std.proofs.Common.{take}
use Rattle.cn_stock_check.specs.Needs.{ArePartsBy}
use Rattle.cn_stock_check.proofs.parts.parts.Given as goal

-- the parts by the needs so far
abbrev pub invariant-loop-need : goal.invariant-loop-need
invariant-loop-need l = ArePartsBy (take l.need-index l.needs) l.counts l.labels
