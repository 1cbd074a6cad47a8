use Rattle.std.proofs.Common.{◌≡◌, true}
use Rattle.std.specs.List.{list_all, range_with_len}
use Rattle.cn_code.specs.TreeJudgements.{is_alike}
use Rattle.cn_code.proofs.tree.seats.are_alike.Given as goal

-- alike so far
abbrev pub invariant-loop-saw : goal.invariant-loop-saw
invariant-loop-saw l = list_all (is_alike l.plan l.seat l.other l.response.0) (range_with_len 0 l.saw) ≡ true
