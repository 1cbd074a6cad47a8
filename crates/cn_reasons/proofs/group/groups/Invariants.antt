use Rattle.std.proofs.Common.{◌≡◌, ◌≤◌, flat_map, length}
use Rattle.std.specs.List.{range_with_len}
use Rattle.cn_reasons.specs.Groups.{group_if}
use Rattle.cn_reasons.proofs.group.groups.Given as goal

-- the groups of the places so far
abbrev pub invariant-loop-place : goal.invariant-loop-place
invariant-loop-place l = record {
  few : length l.groups.items ≤ l.place;
  groups : l.groups.items ≡ flat_map (group_if l.fn.team l.fn.first l.operations) (range_with_len 0 l.place);
}
