use Rattle.std.proofs.Common.{◌≡◌, false}
use Rattle.std.specs.List.{list_any, range_with_len}
use Rattle.cn_meetings.specs.Sights.{reads}
use Rattle.cn_code.specs.TreeJudgements.{sight_at}
use Rattle.cn_code.proofs.tree.sights.some_read.Given as goal

-- none so far
abbrev pub invariant-loop-node : goal.invariant-loop-node
invariant-loop-node l = list_any (λ v. reads (sight_at l.plan v)) (range_with_len 0 l.node) ≡ false
