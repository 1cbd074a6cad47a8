use Rattle.std.proofs.Common.{◌≡◌, take, true}
use Rattle.cn_choice.specs.Live.{all_move}
use Rattle.cn_choice.proofs.live.all_move.Given as goal

-- each operation so far leads away
abbrev pub invariant-loop-operation : goal.invariant-loop-operation
invariant-loop-operation l = all_move l.table l.state.0 (take l.operation-index l.operations) ≡ true
