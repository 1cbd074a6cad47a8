use Rattle.std.proofs.Common.{◌≡◌, ◌⊎◌, ◌↔◌, ℕ, ◌∙◌, ap, arith, subst, sym, true≢false}
use Rattle.std.specs.Prelude.{IsBitSet}
use Rattle.cn_signs.proofs.Rows.{all_responses, response_in, response_out}
use Rattle.cn_signs.proofs.responses.responses_in.Goals as goal
use Rattle.cn_signs.proofs.responses.responses_in.Goals.{then-has, else-has}

pub loop-state-init : goal.loop-state-init
loop-state-init c r = (λ h. absurd (c.new-responses.ensures.none r h), λ f. absurd (omega (arith, f.1.0)))

pub loop-state-preserved : goal.loop-state-preserved
loop-state-preserved c =
    let t = c.args.table.now in
    let o = c.args.operation.0 in
    let k = c.loop-state.state in
    let old = c.loop-state.responses in
    elim c.if-has.branch [
      | then-has w ↦ rw w.responses-is (response_in t o c.args.states k old w.insert.new.self (c.has.ensures.0 w.if-has.true)
          (subst (λ (x : ℕ). (r : ℕ) → IsBitSet w.insert.new.self r ↔ (IsBitSet old r ⊎ (r ≡ x))) (ap (λ (p : ℕ × ℕ). p.0) w.apply.ensures.value) w.insert.ensures) c.loop-state.invariant)
      | else-has w ↦ rw w.responses-is (response_out t o c.args.states k old (λ h. true≢false (sym (c.has.ensures.1 h) ∙ w.if-has.false)) c.loop-state.invariant)
    ]

pub returns : goal.returns
returns c =
    all_responses c.args.table.now c.args.operation.0 c.args.states c.loop-state.state c.loop-state.responses _ (omega (arith, c.loop-state-test.false, c.states-state-end.ensures.number)) c.requires.known
    c.loop-state.invariant
