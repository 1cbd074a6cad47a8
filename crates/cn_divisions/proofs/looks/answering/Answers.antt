use Rattle.std.proofs.Common.{ℕ, ◌≡◌, arith, inl, inr, ap, sym, ◌∙◌}
use Rattle.cn_outcomes.proofs.Packing.{below_or_last}
use Rattle.cn_table.specs.TypeTable.{transition}
use Rattle.cn_divisions.proofs.looks.answering.Goals as goal

pub loop-state-preserved : goal.loop-state-preserved
loop-state-preserved c q =
    let t = c.args.table.now in
    let o = c.args.operation.0 in
    let k = c.loop-state.state in (
      λ h. elim ((c.with_answer-set.ensures q).0 h) [
        | inl b ↦ (let old = (c.loop-state.invariant q).0 b in (omega (arith, old.0), old.1))
        | inr b ↦ (omega (arith, b.0), ap (λ (s : ℕ). (transition t o s).0) b.0 ∙ b.1)
      ],
      λ h. (c.with_answer-set.ensures q).1 (elim (below_or_last q k h.0) [
        | inl l ↦ inl ((c.loop-state.invariant q).1 (l, h.1))
        | inr e ↦ inr (e, sym (ap (λ (s : ℕ). (transition t o s).0) e) ∙ h.1)
      ]),
    )

pub returns : goal.returns
returns c q =
    let end : c.loop-state.state ≡ c.states-state-end.result = omega (arith, c.loop-state-test.false, c.loop-state.auto.state-end) in
    (λ h. (let old = (c.loop-state.invariant q).0 h in (omega (arith, old.0, end, c.states-state-end.ensures.number), old.1)), λ h. (c.loop-state.invariant q).1 (omega (arith, h.0, end, c.states-state-end.ensures.number), h.1))
