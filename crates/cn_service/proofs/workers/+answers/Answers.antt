use Rattle.std.proofs.Common.{◌≡◌, ◌<◌, ℕ, List, [], ◌∷◌, Some, Vec, length, sym, ap, ◌∙◌, subst, length-append, arith, rules}
use Rattle.std.proofs.lemmas.List.Elements.{All-pop}
use Rattle.std.specs.Global.{Global}
use Rattle.cn_hall.specs.Seats.{SeatState}
use Rattle.cn_hall.specs.declared.call.Go.TheVariants.{On}
use Rattle.cn_service.specs.Workers.{AllGatesWereAsked, HasWorked, HaveAllWorked}
use Rattle.cn_service.specs.declared.workers.ProcessHistory.{ProcessHistory}
use Rattle.cn_service.proofs.Places.{may_all_front, may_last, one_more_asked, one_more_worked, read_at, room_front, room_last}
use Rattle.cn_service.proofs.workers.+answers.Goals as goal

pub answer_each-answer_beside-requires-clause-worker : goal.answer_each-answer_beside-requires-clause-worker
answer_each-answer_beside-requires-clause-worker g t c κs within =
    let seats = c.pop.new.self.items in
    let rooms = c.pop-2.new.self.items in
    let longer = ap length c.in-Some.ensures.items in
    let also = ap length c.in-Some-Some.ensures.items in
    let less : length seats < length c.args.calls.now = omega (arith, longer, c.requires.few, length-append seats (c.in-Some.seat ∷ [])) in
    let at : c.len.result ≡ length seats = search rules in
    let mine = read_at c.args.calls.now c.len.result (length seats) c.index-calls-len.result at less c.index-calls-len.is in
    let same : length seats ≡ length rooms = omega (arith, longer, also, c.requires.room_count, length-append seats (c.in-Some.seat ∷ []), length-append rooms (c.in-Some-Some.room ∷ [])) in
    let gates = All-pop (λ (x : g.row.G.Denot). g.G.Gate.says x ≡ On) c.args.gates.items c.pop-3.new.self.items (Some c.in-Some-Some.gate) c.in-Some-Some.ensures'.items c.requires.all_on in (
      may_last c.args.calls.now c.args.hall.now seats c.args.seats.items c.in-Some.seat c.in-Some.ensures.items c.requires.may_work c.index-calls-len.result mine,
      room_last c.args.calls.now rooms c.args.rooms.items c.in-Some-Some.room c.in-Some-Some.ensures.items c.requires.have_room (length seats) same c.index-calls-len.result mine,
      gates.1,
    )

pub answer_each-answer_beside-requires-clause-others : goal.answer_each-answer_beside-requires-clause-others
answer_each-answer_beside-requires-clause-others g t c κs within =
    let seats = c.pop.new.self.items in
    let rooms = c.pop-2.new.self.items in
    let gates = c.pop-3.new.self.items in
    let longer = ap length c.in-Some.ensures.items in
    let also = ap length c.in-Some-Some.ensures.items in
    let shorter = ap length c.in-Some-Some.ensures'.items in
    let on = All-pop (λ (x : g.row.G.Denot). g.G.Gate.says x ≡ On) c.args.gates.items gates (Some c.in-Some-Some.gate) c.in-Some-Some.ensures'.items c.requires.all_on in
    record {
      may_work = may_all_front c.args.calls.now c.args.hall.now seats c.args.seats.items c.in-Some.seat c.in-Some.ensures.items c.requires.may_work;
      few = omega (arith, longer, c.requires.few, length-append seats (c.in-Some.seat ∷ []));
      have_room = room_front c.args.calls.now rooms c.args.rooms.items c.in-Some-Some.room c.in-Some-Some.ensures.items c.requires.have_room;
      room_count = omega (arith, longer, also, c.requires.room_count, length-append seats (c.in-Some.seat ∷ []), length-append rooms (c.in-Some-Some.room ∷ []));
      all_on = on.0;
      gate_count = omega (arith, longer, shorter, c.requires.gate_count, length-append seats (c.in-Some.seat ∷ []), length-append gates (c.in-Some-Some.gate ∷ []));
    }

pub answer_each-returns : goal.answer_each-returns
answer_each-returns g t c =
    let h = c.in_ok-others.ensures in
    let seats = c.pop.new.self.items in
    let rooms = c.pop-2.new.self.items in
    let gates = c.pop-3.new.self.items in
    let longer = ap length c.in-Some.ensures.items in
    let wider = ap length c.in-Some-Some.ensures.items in
    let shorter = ap length c.in-Some-Some.ensures'.items in
    let less : length seats < length c.args.calls.now = omega (arith, longer, c.requires.few, length-append seats (c.in-Some.seat ∷ [])) in
    let at : c.len.result ≡ length seats = search rules in
    let mine = read_at c.args.calls.now c.len.result (length seats) c.index-calls-len.result at less c.index-calls-len.is in
    let more : length rooms ≡ length seats = omega (arith, longer, wider, c.requires.room_count, length-append seats (c.in-Some.seat ∷ []), length-append rooms (c.in-Some-Some.room ∷ [])) in
    let same : length gates ≡ length seats = omega (arith, longer, shorter, c.requires.gate_count, length-append seats (c.in-Some.seat ∷ []), length-append gates (c.in-Some-Some.gate ∷ [])) in
    let also = h.others.room_count.0 ∙ more in
    record {
      seat_count = (
        omega (arith, longer, h.others.seat_count.0, ap length c.push_reserved.ensures.items, length-append seats (c.in-Some.seat ∷ []), length-append c.in_ok-others.others.0.items (c.in_ok-others.last.0 ∷ [])),
        search rules,
      );
      room_count = (
        omega (arith, wider, h.others.room_count.0, ap length c.push_reserved-2.ensures.items, length-append rooms (c.in-Some-Some.room ∷ []), length-append c.in_ok-others.others.1.items (c.in_ok-others.last.1 ∷ [])),
        search rules,
      );
      have_worked = subst (λ (z : List SeatState × List SeatState × List ProcessHistory). HaveAllWorked c.args.calls.now z.0 z.1 z.2)
          (λ i. (sym c.in-Some.ensures.items i, sym c.push_reserved.ensures.items i, sym c.push_reserved-2.ensures.items i))
          (one_more_worked c.args.calls.now seats c.in_ok-others.others.0.items c.in_ok-others.others.1.items c.in-Some.seat c.in_ok-others.last.0 c.in_ok-others.last.1 h.others.seat_count.0 also h.others.have_worked
          (λ d got. let same : Some c.index-calls-len.result ≡ Some d = sym mine ∙ got in let is : c.index-calls-len.result ≡ d = cc in
          subst (λ (v : Vec ℕ Global). HasWorked v.items c.in-Some.seat c.in_ok-others.last.0 c.in_ok-others.last.1.replies.items c.in_ok-others.last.1.fault) is h.worker.0));
      were_asked = subst (λ (z : List SeatState × List g.row.G.Denot × List SeatState × List ProcessHistory). AllGatesWereAsked g.G.Gate.asks g.G.Gate.says z.0 z.1 z.2 z.3)
          (λ i. (sym c.in-Some.ensures.items i, sym c.in-Some-Some.ensures'.items i, sym c.push_reserved.ensures.items i, sym c.push_reserved-2.ensures.items i))
          (one_more_asked g.G.Gate.asks g.G.Gate.says seats c.in_ok-others.others.0.items gates c.in_ok-others.others.1.items c.in-Some.seat c.in_ok-others.last.0 c.in-Some-Some.gate
          c.in_ok-others.last.1 h.others.seat_count.0 same also
          h.others.were_asked h.worker.1);
    }
