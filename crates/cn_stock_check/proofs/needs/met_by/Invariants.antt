use Rattle.std.proofs.Common.{◌≤◌, ◌↔◌, get_or, take, Contains}
use Rattle.cn_stock_check.specs.declared.needs.Need.{Need}
use Rattle.cn_stock_check.proofs.needs.met_by.Given as goal

-- those of the needs so far that are met
abbrev pub invariant-loop-need : goal.invariant-loop-need
invariant-loop-need l = (need : Need) → Contains l.met.items need ↔ (Contains (take l.need-index l.needs) need × (get_or need.counts l.operation 0 ≤ l.count))
