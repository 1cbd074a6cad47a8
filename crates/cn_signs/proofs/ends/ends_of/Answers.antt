use Rattle.std.proofs.Common.{arith, sym, ◌∙◌, true≢false}
use Rattle.cn_views.proofs.SetLoops.{number_in, number_out}
use Rattle.cn_signs.specs.SignChecks.{IsEnd}
use Rattle.cn_signs.proofs.ends.ends_of.Goals as goal
use Rattle.cn_signs.proofs.ends.ends_of.Goals.{then-is_end, else-is_end}

pub loop-state-init : goal.loop-state-init
loop-state-init c q = (λ h. absurd (c.new-ends.ensures.none q h), λ h. absurd (omega (arith, h.0)))

pub loop-state-preserved : goal.loop-state-preserved
loop-state-preserved c =
    let P = IsEnd c.args.table.now c.args.operations.now c.args.rows.now c.args.set in
    let k = c.loop-state.state in
    let old = c.loop-state.ends in
    elim c.if-is_end.branch [
      | then-is_end w ↦ rw w.ends-is (number_in P k old w.insert.new.self (c.is_end.ensures.0 w.if-is_end.true) w.insert.ensures c.loop-state.invariant)
      | else-is_end w ↦ rw w.ends-is (number_out P k old (λ e. true≢false (sym (c.is_end.ensures.1 e) ∙ w.if-is_end.false)) c.loop-state.invariant)
    ]

pub returns : goal.returns
returns c q = (
  λ h. ((c.loop-state.invariant q).0 h).1,
  λ e. (c.loop-state.invariant q).1 (omega (arith, c.requires.known q e.0, c.loop-state-test.false, c.states-state-end.ensures.number), e),
)
