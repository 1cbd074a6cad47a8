use Rattle.std.proofs.Common.{◌↔◌, ℕ, List}
use Rattle.cn_stocks.specs.Meetings.{HasAt}
use Rattle.cn_telling.specs.Joined.{AreJoinedBelow, IsLast}
use Rattle.cn_telling.proofs.joins.joined_sets.Given as goal

-- the operations that the asked ones so far join
abbrev pub invariant-loop-asked : goal.invariant-loop-asked
invariant-loop-asked l = (whole : List ℕ) → IsLast whole l.cells → (f g : ℕ) → HasAt l.joined f g ↔ AreJoinedBelow l.table l.fn.start whole l.asked f g
