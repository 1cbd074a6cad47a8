use Rattle.std.proofs.Common.{◌≡◌, length, sym, ap, ◌∙◌, arith, rules}
use Rattle.cn_proto.specs.Plan.{processes_of}
use Rattle.cn_log.specs.Opening.{Opening}
use Rattle.cn_service.proofs.ClosedLogs.{left_of, may_all_work, one_gate_each, same_opening, serve_all}
use Rattle.cn_service.proofs.serving.serve_calls.Goals as goal

pub answer_each-requires : goal.answer_each-requires
answer_each-requires g c =
    let seats = c.in-Ok.seats.items in
    let count : length seats ≡ length c.args.calls.now = c.in-Ok.ensures.count ∙ sym c.requires.processes in (
      search rules,
      (
        search rules,
        record {
          may_work = may_all_work c.in-Ok.hall c.args.core c.args.calls.now seats count (λ p less. c.in-Ok.ensures.seats p (omega (arith, less, c.requires.processes))) c.requires.empty c.requires.operations;
          few = omega (arith, count);
          have_room = c.in_ok-rooms.ensures.room;
          room_count = c.in_ok-rooms.ensures.count ∙ sym count;
          all_on = c.in_ok-gates.ensures.on;
          gate_count = c.in_ok-gates.ensures.count ∙ c.processes.ensures.number ∙ sym c.in-Ok.ensures.count;
        },
      ),
    )

pub close-core-requires-clause-of : goal.close-core-requires-clause-of
close-core-requires-clause-of g c =
    let count : length c.in-Ok.seats.items ≡ length c.args.calls.now = c.in-Ok.ensures.count ∙ sym c.requires.processes in
    left_of c.in-Ok.hall c.args.core c.args.calls.now c.in-Ok.seats.items count
    (λ p less. c.in-Ok.ensures.seats p (omega (arith, less, c.requires.processes))) c.in-Some.seats.items c.in-Some.worked.items c.in-Some.ensures.seat_count.0
    (c.in-Some.ensures.room_count.0 ∙ c.in_ok-rooms.ensures.count ∙ sym count) c.in-Some.ensures.have_worked

pub returns-clause-opening : goal.returns-clause-opening
returns-clause-opening g c =
    let count : length c.in-Ok.seats.items ≡ length c.args.calls.now = c.in-Ok.ensures.count ∙ sym c.requires.processes in
    same_opening c.in-Ok.hall c.args.core c.args.calls.now c.in-Ok.seats.items count
    (λ p less. c.in-Ok.ensures.seats p (omega (arith, less, c.requires.processes))) c.in-Some.seats.items c.in-Some.worked.items
    c.in-Some.ensures.seat_count.0 (c.in-Some.ensures.room_count.0 ∙ c.in_ok-rooms.ensures.count ∙ sym count) c.in-Some.ensures.have_worked c.close-core.result c.close-core.ensures.carries
    (omega (arith, c.processes.ensures.range.0, c.processes.ensures.number, c.requires.processes))

pub returns-clause-served : goal.returns-clause-served
returns-clause-served g c =
    let count : length c.in-Ok.seats.items ≡ length c.args.calls.now = c.in-Ok.ensures.count ∙ sym c.requires.processes in
    serve_all c.in-Ok.hall c.args.core c.args.calls.now c.in-Ok.seats.items count
    (λ p less. c.in-Ok.ensures.seats p (omega (arith, less, c.requires.processes))) c.in-Some.seats.items c.in-Some.worked.items c.in-Some.ensures.seat_count.0
    (c.in-Some.ensures.room_count.0 ∙ c.in_ok-rooms.ensures.count ∙ sym count) c.in-Some.ensures.have_worked c.close-core.result c.close-core.ensures.carries c.close-core.ensures.slots c.close-core.ensures.answers

pub returns-clause-gates : goal.returns-clause-gates
returns-clause-gates g c =
    let count : length c.in-Ok.seats.items ≡ length c.args.calls.now = c.in-Ok.ensures.count ∙ sym c.requires.processes in
    let opened = same_opening c.in-Ok.hall c.args.core c.args.calls.now c.in-Ok.seats.items count
    (λ p less. c.in-Ok.ensures.seats p (omega (arith, less, c.requires.processes))) c.in-Some.seats.items c.in-Some.worked.items
    c.in-Some.ensures.seat_count.0 (c.in-Some.ensures.room_count.0 ∙ c.in_ok-rooms.ensures.count ∙ sym count) c.in-Some.ensures.have_worked c.close-core.result c.close-core.ensures.carries
    (omega (arith, c.processes.ensures.range.0, c.processes.ensures.number, c.requires.processes)) in
    one_gate_each c.in-Ok.hall c.args.core c.args.calls.now c.in-Ok.seats.items count
    (λ p less. c.in-Ok.ensures.seats p (omega (arith, less, c.requires.processes))) c.in-Some.seats.items c.in-Some.worked.items
    c.in-Some.ensures.seat_count.0 (c.in-Some.ensures.room_count.0 ∙ c.in_ok-rooms.ensures.count ∙ sym count) c.in-Some.ensures.have_worked c.close-core.result c.close-core.ensures.carries
    g.G.Gate.asks g.G.Gate.says _ c.in_ok-gates.gates.items
    (c.in_ok-gates.ensures.count ∙ c.processes.ensures.number ∙ sym c.in-Ok.ensures.count) c.in-Some.ensures.were_asked c.in_ok-gates.ensures.made c.requires.empty
    (ap (λ (o : Opening). processes_of o.plan) opened ∙ sym c.requires.processes)
