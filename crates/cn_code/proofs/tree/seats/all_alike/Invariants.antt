use Rattle.std.proofs.Common.{◌≡◌, true}
use Rattle.std.specs.List.{list_all, range_with_len}
use Rattle.cn_code.specs.TreeJudgements.{are_alike}
use Rattle.cn_code.proofs.tree.seats.all_alike.Given as goal

-- alike so far
abbrev pub invariant-loop-response : goal.invariant-loop-response
invariant-loop-response l = list_all (are_alike l.plan l.seat l.other) (range_with_len 0 l.response) ≡ true
