use Rattle.std.proofs.Common.{ℕ, ◌↔◌, get_or}
use Rattle.std.specs.List.{sum}
use Rattle.cn_stock_check.specs.Seen.{AreFound}
use Rattle.cn_stock_check.specs.Sets.{IsIn}
use Rattle.cn_stock_check.proofs.SeenLemmas.{LeavesBy, ShowsBy}
use Rattle.cn_stock_check.proofs.SetLemmas.{Below}
use Rattle.cn_stock_check.proofs.seen.Question.+seen.Given as goal

-- the words get shorter
abbrev pub decreases-seen : goal.decreases-seen
decreases-seen l = sum l.counts

-- what is known of the words whose last operation is one of those so far
abbrev pub invariant-loop-operation : goal.invariant-loop-operation
invariant-loop-operation l = record {
  states : (q : ℕ) → IsIn l.seen.states q ↔ Below (LeavesBy l.self.table.now l.self.start.0 l.self.team.now l.self.asked l.counts q) l.operation;
  pairs : (r q : ℕ) → IsIn (get_or l.seen.pairs r 0) q ↔ Below (ShowsBy l.self.table.now l.self.start.0 l.self.team.now l.self.asked l.counts r q) l.operation;
  found : AreFound l.self.table.now l.self.start.0 l.self.team.now l.self.asked l.found;
}
