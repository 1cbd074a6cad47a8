use Rattle.std.proofs.Common.{◌≡◌, ◌++◌}
use Rattle.std.specs.Vec.{vec_capacity}
use Rattle.cn_log.specs.Batches.{each_slot, members}
use Rattle.cn_log.proofs.batch.put_batch.Given as goal

abbrev pub invariant-loop-p : goal.invariant-loop-p
invariant-loop-p l = record {
  entries : l.entries.items ≡ l.fn.entries.items ++ members l.p 0 l.batch;
  slots : l.slots.items ≡ l.fn.slots.items ++ each_slot l.slot (members l.p 0 l.batch);
  room : vec_capacity l.entries ≡ vec_capacity l.fn.entries;
  slots_room : vec_capacity l.slots ≡ vec_capacity l.fn.slots;
}
