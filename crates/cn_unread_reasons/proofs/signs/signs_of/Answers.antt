use Rattle.std.proofs.Common.{◌∙◌, ℕ, List, subst, sym, take, true≢false}
use Rattle.std.proofs.lemmas.List.{take_all, take_more}
use Rattle.cn_unread_reasons.specs.declared.sight.Answer.{Answer}
use Rattle.cn_unread_reasons.proofs.SignsTold.{HasFor, operation_again, operation_more}
use Rattle.cn_unread_reasons.proofs.signs.signs_of.Goals as goal
use Rattle.cn_unread_reasons.proofs.signs.signs_of.Goals.{then-not-is_repeated+in_ok-push_signs, else-not-is_repeated}

pub loop-place-preserved : goal.loop-place-preserved
loop-place-preserved c =
    let i = c.loop-place.invariant in
    let t = c.args.table.now in
    let own = c.args.own in
    let others = c.args.others in
    let xs : List ℕ = c.args.further.now in
    let k = c.loop-place.place in
    let old : List Answer = c.loop-place.signs.items in
    elim c.if-not-is_repeated.branch [
      | then-not-is_repeated+in_ok-push_signs w ↦
          (let new : List Answer = w.push_signs.new.signs.items in
          rw w.signs-is (record {
            same = subst (λ (os : List ℕ). HasFor t own others os new) (sym (take_more xs k 0 c.loop-place-test.true)) (operation_more t own others (take k xs) _ old new w.in_ok-push_signs.ensures.same i.same);
            order = w.in_ok-push_signs.ensures.order xs i.order (λ a here. (k, ((i.same a).0 here).0, λ again. true≢false (sym (c.is_repeated.ensures.1 again) ∙ w.if-not-is_repeated.true)));
            known = w.in_ok-push_signs.ensures.known i.known;
          }))
      | else-not-is_repeated w ↦ rw w.signs-is (record {
        same = subst (λ (os : List ℕ). HasFor t own others os old) (sym (take_more xs k 0 c.loop-place-test.true))
            (operation_again t own others (take k xs) _ old (c.is_repeated.ensures.0 w.if-not-is_repeated.false) i.same);
        order = i.order;
        known = i.known;
      })
    ]

pub returns-clause-same : goal.returns-clause-same
returns-clause-same c =
    subst (λ (os : List ℕ). HasFor c.args.table.now c.args.own c.args.others os c.loop-place.signs.items) (take_all c.loop-place.place c.args.further.now c.loop-place-test.false) c.loop-place.invariant.same
