use Rattle.std.proofs.Common.{subst}
use Rattle.cn_hall.specs.Seats.{IsLog, SeatState}
use Rattle.cn_hall.proofs.laws.seats_have_their_calls.Goals as goal

pub returns-clause-calls : goal.returns-clause-calls
returns-clause-calls c = let s : SeatState = c.args.seat.now in
    let log : IsLog s.core = subst (λ (t : SeatState). IsLog t.core) c.seat.view_is c.seat.invariant.5 in
    c.calls_are_in_order.ensures.own s.core.opening s.core.schedule s.process log.opening log.events
