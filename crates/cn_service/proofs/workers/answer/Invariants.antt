use Rattle.std.proofs.Common.{◌≡◌, ◌≤◌, ◌<◌, None, All, length, take, vec_capacity}
use Rattle.cn_hall.specs.Answers.{own}
use Rattle.cn_hall.specs.Calls.{IsSameSeat}
use Rattle.cn_hall.specs.Seats.{pending}
use Rattle.cn_hall.specs.declared.call.Go.TheVariants.{On}
use Rattle.cn_service.specs.Serving.{operations_called}
use Rattle.cn_service.specs.Workers.{HasAsked}
use Rattle.cn_service.proofs.workers.answer.Given as goal

abbrev pub invariant-loop-operation : goal.invariant-loop-operation
invariant-loop-operation g l = record {
  same : IsSameSeat l.fn.seat l.seat;
  idle : pending l.seat ≡ None;
  made : operations_called l.seat.process l.seat.core.schedule ≡ take l.operation-index l.operations;
  own : own l.seat ≡ l.replies.items;
  range : All (λ r. r.response.0 < length l.seat.core.opening.object.responses) l.replies.items;
  says : g.G.Gate.says l.gate ≡ On;
  asked : HasAsked g.G.Gate.asks g.G.Gate.says l.fn.seat l.fn.gate l.seat l.gate None;
  count : length l.replies.items ≡ l.operation-index;
  room : length l.operations ≤ vec_capacity l.replies;
}
