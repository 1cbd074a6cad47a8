use Rattle.std.proofs.Common.{◌+◌, ◌∙◌, List, take, subst, sym, true≢false}
use Rattle.std.proofs.lemmas.List.{take_all, take_more}
use Rattle.cn_stock_check.specs.declared.needs.Need.{Need}
use Rattle.cn_stock_check.proofs.NeedLemmas.{AreMet, known_met, met_more, met_same}
use Rattle.cn_stock_check.proofs.needs.met_by.Goals as goal
use Rattle.cn_stock_check.proofs.needs.met_by.Goals.{then-is_met+in_ok-push, else-is_met}

pub loop-need-preserved : goal.loop-need-preserved
loop-need-preserved c =
    let needs : List Need = c.args.needs.now in
    let i = c.loop-need.need-index in
    elim c.if-is_met.branch [
      | then-is_met+in_ok-push w ↦ rw w.met-is
          (met_more c.args.operation c.args.count (take i needs) c.loop-need.met.items (take (i + 1) needs) w.push.new.self.items _ (take_more needs i _ c.loop-need-test.true) c.loop-need.invariant w.in_ok-push.ensures.items
          (c.is_met.ensures.0 w.if-is_met.true))
      | else-is_met w ↦ rw w.met-is
          (met_same c.args.operation c.args.count (take i needs) c.loop-need.met.items (take (i + 1) needs) c.loop-need.met.items _ (take_more needs i _ c.loop-need-test.true) c.loop-need.invariant
          (λ h. true≢false (sym (c.is_met.ensures.1 h) ∙ w.if-is_met.false)))
    ]

pub returns-clause-met : goal.returns-clause-met
returns-clause-met c =
    subst (λ (xs : List Need). AreMet c.args.operation c.args.count xs c.loop-need.met.items) (take_all c.loop-need.need-index c.args.needs.now c.loop-need-test.false) c.loop-need.invariant

pub returns-clause-known : goal.returns-clause-known
returns-clause-known c = λ known.
    known_met c.args.operation c.args.count c.args.needs.now c.loop-need.met.items known
    (subst (λ (xs : List Need). AreMet c.args.operation c.args.count xs c.loop-need.met.items) (take_all c.loop-need.need-index c.args.needs.now c.loop-need-test.false) c.loop-need.invariant)
