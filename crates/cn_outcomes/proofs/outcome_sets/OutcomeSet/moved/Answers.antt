use Rattle.std.proofs.Common.{ℕ, ◌≡◌, inl, inr, sym, ap, ◌∙◌}
use Rattle.std.specs.Prelude.{IsBitSet}
use Rattle.cn_table.specs.TypeTable.{transition}
use Rattle.cn_outcomes.specs.PairSets.{Has}
use Rattle.cn_outcomes.proofs.Unions.{moved_part, from_none, from_more, from_all, from_first}
use Rattle.cn_outcomes.proofs.outcome_sets.OutcomeSet.moved.Goals as goal

pub loop-state-init : goal.loop-state-init
loop-state-init c =
    rw c.into_iter-state-iterator.ensures.into_iter_gives (from_none _ (IsBitSet c.args.from) c.iter-state-items.result _ c.iter-state-items.ensures.same (λ (x : ℕ × ℕ). c.none-moved.ensures x.0 x.1))

pub apply-requires-clause-state : goal.apply-requires-clause-state
apply-requires-clause-state c = c.requires.known c.in-Some.state (from_first c.loop-state.invariant c.in-Some.ensures.steps)

pub responses_with-requires : goal.responses_with-requires
responses_with-requires c = c.iter-state-items.ensures.below c.in-Some.state (from_first c.loop-state.invariant c.in-Some.ensures.steps)

pub loop-state-preserved : goal.loop-state-preserved
loop-state-preserved c =
    let step = transition c.args.table.now c.args.operation.0 in
    let next : c.apply.result.1.0 ≡ (step c.in-Some.state).1 = ap (λ (p : ℕ × ℕ). p.1) c.apply.ensures.value in
    from_more (moved_part step c.args.self.now) (IsBitSet c.args.from) c.loop-state.state-iterator c.next.new.self c.in-Some.state (λ (x : ℕ × ℕ). Has c.loop-state.moved x.0 x.1)
    (λ (x : ℕ × ℕ). Has c.add_responses.new.self x.0 x.1)
    c.in-Some.ensures.steps c.loop-state.invariant
    (λ x. (
      λ s. elim ((c.add_responses.ensures x.0 x.1).0 s) [ inl a ↦ inl a | inr e ↦ inr ((c.responses_with.ensures x.0).0 e.0, sym (e.1 ∙ next)) ],
      λ h. (c.add_responses.ensures x.0 x.1).1 (elim h [ inl a ↦ inl a | inr e ↦ inr ((c.responses_with.ensures x.0).1 e.0, sym (next ∙ e.1)) ]),
    ))

pub returns : goal.returns
returns c r q =
    let whole = from_all (moved_part (transition c.args.table.now c.args.operation.0) c.args.self.now) (IsBitSet c.args.from) c.loop-state.state-iterator
    (λ (x : ℕ × ℕ). Has c.loop-state.moved x.0 x.1) c.in-None.ensures.steps.0 c.loop-state.invariant (r, q) in
    (λ s. (let x = whole.0 s in (x.0, x.2.0, x.2.1)), λ x. whole.1 (x.0, c.requires.among r x.0 x.1, (x.1, x.2)))
