use Rattle.std.proofs.Common.{◌<◌, List, [], ◌∷◌, ◌++◌, All, append-nil, length, sym, ap, ◌∙◌, subst, arith, rules}
use Rattle.std.proofs.lemmas.List.{take_all, take_more}
use Rattle.std.proofs.lemmas.List.Elements.{All-push}
use Rattle.cn_log.specs.Opening.{Opening}
use Rattle.cn_log.specs.declared.event.Reply.{Reply}
use Rattle.cn_service.specs.Workers.{Ended, NoCall, Replied}
use Rattle.cn_service.proofs.Seats.{begins_left, ends_left, go_ended, one_more}
use Rattle.cn_service.proofs.workers.answer.Goals as goal

pub returns-in-Err-clause-worked : goal.returns-in-Err-clause-worked
returns-in-Err-clause-worked g c =
    let i = c.loop-operation.invariant in
    let h = c.in-Err.ensures in
    let more = take_more c.args.operations.now c.loop-operation.operation-index _ c.loop-operation-test.true in
    record {
      same = search rules;
      made = begins_left c.args.operations.now c.loop-operation.operation-index _ more c.loop-operation.seat c.call.new.seat h.same i.made c.in-Err.fault h.fault;
      replied = h.own ∙ i.own;
      range = subst (λ (o : Opening). All (λ (r : Reply). r.response.0 < length o.object.responses) c.loop-operation.replies.items) (sym h.same.2) i.range;
      ended = ends_left c.args.operations.now c.loop-operation.operation-index _ more c.loop-operation.seat c.call.new.seat h.same i.made c.loop-operation-test.true
          c.loop-operation.replies.items i.count c.in-Err.fault h.fault;
    }

pub loop-operation-preserved : goal.loop-operation-preserved
loop-operation-preserved g c =
    let i = c.loop-operation.invariant in
    let h = c.in-Ok.ensures in
    let more = take_more c.args.operations.now c.loop-operation.operation-index _ c.loop-operation-test.true in
    record {
      same = search rules;
      idle = h.reply.1.0;
      made = one_more c.args.operations.now c.loop-operation.operation-index _ more c.loop-operation.seat c.call.new.seat h.same i.made h.reply.0;
      own = h.own ∙ ap (λ l. l ++ c.in-Ok.reply ∷ []) i.own ∙ sym c.push_reserved.ensures.items;
      range = subst (λ (z : Opening × List Reply). All (λ (r : Reply). r.response.0 < length z.0.object.responses) z.1) (λ k. (sym h.same.2 k, sym c.push_reserved.ensures.items k))
          (All-push (λ (r : Reply). r.response.0 < length c.loop-operation.seat.core.opening.object.responses) c.loop-operation.replies.items c.in-Ok.reply i.range h.range);
      says = h.said;
      asked = Replied _ c.in-Ok.reply i.asked (record { same = h.same; comes = h.reply; asked = h.asked; said = h.said });
      count = search rules;
      room = search rules;
    }

pub returns-in-Err-clause-asked : goal.returns-in-Err-clause-asked
returns-in-Err-clause-asked g c =
    let i = c.loop-operation.invariant in
    let h = c.in-Err.ensures in
    (c.call.new.gate, Ended _ c.in-Err.fault i.asked (record { same = h.same; comes = h.fault; asked = h.asked; said = h.said }), h.said ∙ go_ended c.in-Err.fault)

pub returns-clause-asked : goal.returns-clause-asked
returns-clause-asked g c = (c.loop-operation.gate, c.loop-operation.invariant.asked, c.loop-operation.invariant.says)

pub returns-clause-worked : goal.returns-clause-worked
returns-clause-worked g c =
    let i = c.loop-operation.invariant in
    let all = i.made ∙ take_all c.loop-operation.operation-index c.args.operations.now c.loop-operation-test.false in
    record {
      same = i.same;
      made = ([], sym (append-nil _ ∙ all));
      replied = i.own;
      range = i.range;
      ended = (all, omega (arith, i.count, c.loop-operation-test.false, c.loop-operation.auto.operation-index-end));
    }

pub loop-operation-init : goal.loop-operation-init
loop-operation-init g c = record {
  same = search rules;
  idle = search rules;
  made = search rules;
  own = search rules;
  range = search rules;
  says = search rules;
  asked = NoCall;
  count = search rules;
  room = search rules;
}
