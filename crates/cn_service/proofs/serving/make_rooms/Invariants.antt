use Rattle.std.proofs.Common.{◌≡◌, ◌≤◌, length, vec_capacity}
use Rattle.cn_service.specs.Workers.{HaveRoom}
use Rattle.cn_service.proofs.serving.make_rooms.Given as goal

abbrev pub invariant-loop-operations : goal.invariant-loop-operations
invariant-loop-operations l = record {
  count : length l.rooms.items ≡ l.operations-index;
  room : HaveRoom l.calls l.rooms.items;
  space : length l.calls ≤ vec_capacity l.rooms;
}
