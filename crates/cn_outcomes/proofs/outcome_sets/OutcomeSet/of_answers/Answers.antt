use Rattle.std.proofs.Common.{ℕ, ◌≡◌, inl, inr, sym, ap, ◌∙◌}
use Rattle.std.specs.Prelude.{IsBitSet}
use Rattle.cn_table.specs.TypeTable.{transition}
use Rattle.cn_outcomes.specs.PairSets.{Has}
use Rattle.cn_outcomes.proofs.Unions.{answer_part, from_none, from_more, from_all, from_first}
use Rattle.cn_outcomes.proofs.outcome_sets.OutcomeSet.of_answers.Goals as goal

pub loop-state-init : goal.loop-state-init
loop-state-init c =
    rw c.into_iter-state-iterator.ensures.into_iter_gives (from_none _ (IsBitSet c.args.from) c.iter-state-items.result _ c.iter-state-items.ensures.same (λ (x : ℕ × ℕ). c.none-set.ensures x.0 x.1))

pub apply-requires-clause-state : goal.apply-requires-clause-state
apply-requires-clause-state c = c.requires.known c.in-Some.state (from_first c.loop-state.invariant c.in-Some.ensures.steps)

pub loop-state-preserved : goal.loop-state-preserved
loop-state-preserved c =
    let step = transition c.args.table.now c.args.operation.0 in
    let response : c.apply.result.0.0 ≡ (step c.in-Some.state).0 = ap (λ (p : ℕ × ℕ). p.0) c.apply.ensures.value in
    let next : c.apply.result.1.0 ≡ (step c.in-Some.state).1 = ap (λ (p : ℕ × ℕ). p.1) c.apply.ensures.value in
    from_more (answer_part step) (IsBitSet c.args.from) c.loop-state.state-iterator c.next.new.self c.in-Some.state (λ (x : ℕ × ℕ). Has c.loop-state.set x.0 x.1)
    (λ (x : ℕ × ℕ). Has c.add.new.self x.0 x.1)
    c.in-Some.ensures.steps c.loop-state.invariant
    (λ x. (
      λ s. elim ((c.add.ensures x.0 x.1).0 s) [ inl a ↦ inl a | inr e ↦ inr (sym (e.0 ∙ response), sym (e.1 ∙ next)) ],
      λ h. (c.add.ensures x.0 x.1).1 (elim h [ inl a ↦ inl a | inr e ↦ inr (sym (response ∙ e.0), sym (next ∙ e.1)) ]),
    ))

pub returns : goal.returns
returns c r q =
    let whole = from_all (answer_part (transition c.args.table.now c.args.operation.0)) (IsBitSet c.args.from) c.loop-state.state-iterator
    (λ (x : ℕ × ℕ). Has c.loop-state.set x.0 x.1) c.in-None.ensures.steps.0 c.loop-state.invariant (r, q) in
    (λ s. (let x = whole.0 s in (x.0, x.1, x.2.0, x.2.1)), λ x. whole.1 (x.0, x.1, (x.2, x.3)))
