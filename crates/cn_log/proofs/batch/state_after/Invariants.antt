use Rattle.std.proofs.Common.{◌≡◌, ◌<◌, length}
use Rattle.cn_table.specs.Run.{state_after}
use Rattle.cn_log.specs.Batches.{members}
use Rattle.cn_log.specs.Log.{operations_of}
use Rattle.cn_log.proofs.batch.state_after.Given as goal

abbrev pub invariant-loop-p : goal.invariant-loop-p
invariant-loop-p l = record {
  state : l.state.0 ≡ state_after l.object l.fn.start.0 (operations_of (members l.p 0 l.batch));
  known : l.state.0 < length l.object.states;
}
