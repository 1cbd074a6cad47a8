use Rattle.std.proofs.Common.{◌↔◌, ◌⊎◌, ◌≡◌, ◌∙◌, List, Contains, arith, sym, subst, true≢false}
use Rattle.std.specs.Prelude.{AllPairs}
use Rattle.std.proofs.lemmas.List.Elements.{All-push, All-same}
use Rattle.cn_unread_reasons.specs.Known.{IsKnownAnswer}
use Rattle.cn_unread_reasons.specs.SignWitnesses.{IsBefore}
use Rattle.cn_unread_reasons.specs.declared.sight.Answer.{Answer}
use Rattle.cn_unread_reasons.proofs.SignsTold.{all_responses, order_more, pushed, response_more, response_out}
use Rattle.cn_unread_reasons.proofs.signs.push_signs.Goals as goal
use Rattle.cn_unread_reasons.proofs.signs.push_signs.Goals.{then-comes_in_one+in_ok-push, else-comes_in_one}

pub loop-number-preserved : goal.loop-number-preserved
loop-number-preserved c =
    let t = c.args.table.now in
    let o = c.args.operation in
    let i = c.loop-number.invariant in
    let before : List Answer = c.args.signs.now.items in
    let old : List Answer = c.loop-number.signs.items in
    let k = c.loop-number.number in
    let answer : Answer = record { operation = o; response = record { 0 = k } } in
    elim c.if-comes_in_one.branch [
      | then-comes_in_one+in_ok-push w ↦
          (let new : List Answer = w.push.new.self.items in
          let more = subst (λ (list : List Answer). (a : Answer) → Contains list a ↔ (Contains old a ⊎ (a ≡ answer))) (sym w.in_ok-push.ensures.items) (pushed old answer) in
          rw w.signs-is (record {
            same = response_more t c.args.own c.args.others o before k old new more (c.comes_in_one.ensures.0 w.if-comes_in_one.true) i.same;
            order = λ further before_order first. subst (AllPairs (IsBefore further)) (sym w.in_ok-push.ensures.items)
                (order_more t c.args.own c.args.others o before k further old i.same first (i.order further before_order first));
            known = λ before_known. All-same (IsKnownAnswer t) _ _ w.in_ok-push.ensures.items (All-push (IsKnownAnswer t) old answer (i.known before_known) (record {
              operation = c.requires.operation;
              response = omega (arith, c.loop-number.auto.number-end, c.loop-number-test.true, c.responses-number-end.ensures.number);
            }));
          }))
      | else-comes_in_one w ↦ rw w.signs-is (record {
        same = response_out t c.args.own c.args.others o before k old (λ at. true≢false (sym (c.comes_in_one.ensures.1 at) ∙ w.if-comes_in_one.false)) i.same;
        order = i.order;
        known = i.known;
      })
    ]

pub returns-clause-same : goal.returns-clause-same
returns-clause-same c =
    all_responses c.args.table.now c.args.own c.args.others c.args.operation c.args.signs.now.items c.loop-number.number c.loop-number.signs.items c.tables_are_valid.ensures.table c.requires.operation c.requires.own
    (omega (arith, c.loop-number-test.false, c.responses-number-end.ensures.number)) c.loop-number.invariant.same
