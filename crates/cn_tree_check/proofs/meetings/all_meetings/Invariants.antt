use Rattle.std.proofs.Common.{◌≡◌, map, take}
use Rattle.cn_tree_check.specs.Right.{meeting_of}
use Rattle.cn_tree_check.proofs.meetings.all_meetings.Given as goal

-- the meetings of the nodes so far
abbrev pub invariant-loop-node : goal.invariant-loop-node
invariant-loop-node l = l.meetings.items ≡ map meeting_of (take l.node-index l.nodes)
