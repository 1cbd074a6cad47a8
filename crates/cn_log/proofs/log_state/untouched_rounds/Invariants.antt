use Rattle.std.proofs.Common.{◌≡◌, ◌≤◌, replicate}
use Rattle.std.specs.Vec.{vec_capacity}
use Rattle.cn_log.specs.Opening.{setting_of}
use Rattle.cn_log.proofs.log_state.untouched_rounds.Given as goal

abbrev pub invariant-loop-slot : goal.invariant-loop-slot
invariant-loop-slot l = record {
  items : l.rounds.items ≡ replicate l._slot (setting_of l.opening).untouched;
  room : l.opening.capacity ≤ vec_capacity l.rounds;
}
