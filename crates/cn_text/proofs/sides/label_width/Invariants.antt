use Rattle.std.proofs.Common.{◌≡◌, ◌≤◌, drop, max}
use Rattle.cn_text.specs.Sides.{label_width}
use Rattle.cn_text.proofs.sides.label_width.Given as goal

-- the widest so far, and the others
abbrev pub invariant-loop-group : goal.invariant-loop-group
invariant-loop-group l = record {
  width : max l.width (label_width (drop l.group-index l.groups)) ≡ label_width l.groups;
  few : l.width ≤ 9;
}
