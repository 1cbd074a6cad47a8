use Rattle.std.proofs.Common.{arith, sym, ◌∙◌, true≢false}
use Rattle.cn_unread.specs.Collects.{LookAlike}
use Rattle.cn_views.proofs.SetLoops.{number_end, number_in, number_out}
use Rattle.cn_views.proofs.looks.states_alike.Goals as goal
use Rattle.cn_views.proofs.looks.states_alike.Goals.{then-look_alike, else-look_alike}

pub loop-other-init : goal.loop-other-init
loop-other-init c q = (λ h. absurd (c.new-alike.ensures.none q h), λ h. absurd (omega (arith, h.0)))

pub loop-other-preserved : goal.loop-other-preserved
loop-other-preserved c =
    let P = LookAlike c.args.table.now c.args.operations.now c.args.state.0 in
    let k = c.loop-other.other in
    let old = c.loop-other.alike in
    elim c.if-look_alike.branch [
      | then-look_alike w ↦ rw w.alike-is (number_in P k old w.insert.new.self (c.look_alike.ensures.0 w.if-look_alike.true) w.insert.ensures c.loop-other.invariant)
      | else-look_alike w ↦ rw w.alike-is (number_out P k old (λ s. true≢false (sym (c.look_alike.ensures.1 s) ∙ w.if-look_alike.false)) c.loop-other.invariant)
    ]

pub returns : goal.returns
returns c =
    number_end (LookAlike c.args.table.now c.args.operations.now c.args.state.0) c.loop-other.other _ c.loop-other.alike
    (omega (arith, c.loop-other-test.false, c.loop-other.auto.other-end, c.states-other-end.ensures.number)) c.loop-other.invariant
