use Rattle.std.proofs.Common.{◌∙◌, ap}
use Rattle.cn_hall.specs.Seats.{SeatState, caller, is_in_call}
use Rattle.cn_hall.proofs.Callers.{in_call_is, idle_is}
use Rattle.cn_hall.proofs.seat.Seat.in_call.Goals as goal

pub returns-clause-call : goal.returns-clause-call
returns-clause-call c = in_call_is (caller c.args.self.now).phase c.self.inside.standing.in_call (c.self.invariant.4.3 ∙ ap (λ (s : SeatState). is_in_call (caller s).phase) c.self.view_is)

pub returns-clause-idle : goal.returns-clause-idle
returns-clause-idle c = idle_is (caller c.args.self.now).phase c.self.inside.standing.in_call (c.self.invariant.4.3 ∙ ap (λ (s : SeatState). is_in_call (caller s).phase) c.self.view_is)
