use Rattle.std.proofs.Common.{◌≡◌, take, true, false, get_or}
use Rattle.std.specs.List.{list_all}
use Rattle.cn_choice.proofs.live.are_marked.Given as goal

-- each operation so far is marked
abbrev pub invariant-loop-operation : goal.invariant-loop-operation
invariant-loop-operation l = list_all (λ operation. get_or l.marks operation false) (take l.operation-index l.operations) ≡ true
