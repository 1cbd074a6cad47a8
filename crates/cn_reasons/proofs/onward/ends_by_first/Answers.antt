use Rattle.std.proofs.Common.{ℕ, ◌≡◌, ◌+◌, ◌↔◌, inl, inr, ap, arith, length, subst, sym}
use Rattle.std.specs.Prelude.{IsBitSet, slice_index}
use Rattle.cn_table.specs.TypeTable.{transition}
use Rattle.cn_outcomes.proofs.LastProcess.{zero_has_none}
use Rattle.cn_stocks.proofs.Steps.{gathered_first, gathered_more}
use Rattle.cn_reasons.specs.Onward.{EndsIn}
use Rattle.cn_reasons.proofs.OnwardLemmas.{Part, from_part, to_part}
use Rattle.cn_reasons.proofs.onward.ends_by_first.Goals as goal

pub loop-operation-init : goal.loop-operation-init
loop-operation-init c q = gathered_first ⊥ (Part c.args.table.now c.args.start c.args.count q) (IsBitSet 0 q) (λ b. zero_has_none q b, λ b. absurd b)

pub loop-operation-preserved : goal.loop-operation-preserved
loop-operation-preserved c q =
    let t = c.args.table.now in
    let next : c.apply.result.1.0 ≡ (transition t c.loop-operation.operation c.args.start).1 = ap (λ (p : ℕ × ℕ). p.1) c.apply.ensures.value in
    let new : Type 0 = IsBitSet (slice_index c.args.row.now c.apply.result.1.0) q in
    gathered_more ⊥ (Part t c.args.start c.args.count q) c.loop-operation.operation (IsBitSet c.loop-operation.set q) new (IsBitSet c.union-set.result q) (c.loop-operation.invariant q) (c.union-set.ensures q)
    (subst (λ (s : ℕ). new ↔ EndsIn t s c.args.count q) next (c.requires.row c.apply.result.1.0 c.apply.ensures.next q))

pub returns : goal.returns
returns c q =
    let t = c.args.table.now in
    let i = c.loop-operation.invariant q in (
      λ s. elim (i.0 s) [ inl z ↦ absurd z | inr r ↦ from_part t c.args.start c.args.count q r.0 (omega (arith, r.1, c.operations-operation-end.ensures.number, c.loop-operation.auto.operation-end)) r.2 ],
      λ h. (let p = to_part t c.args.start c.args.count q h in i.1 (inr (p.0, omega (arith, p.1, c.operations-operation-end.ensures.number, c.loop-operation-test.false), p.2))),
    )
