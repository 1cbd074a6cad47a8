use Rattle.std.proofs.Common.{ℕ, ◌≡◌, ◌<◌, inl, inr, length, sym, ap, ◌∙◌, subst}
use Rattle.std.specs.Prelude.{IsBitSet}
use Rattle.cn_table.specs.TypeTable.{transition}
use Rattle.cn_outcomes.proofs.Unions.{from_none, from_more, from_all, from_first}
use Rattle.cn_outcomes.proofs.subset_rows.image.Goals as goal

pub loop-state-init : goal.loop-state-init
loop-state-init c =
    rw c.into_iter-state-iterator.ensures.into_iter_gives
    (from_none _ (IsBitSet c.args.from) c.iter-state-items.result (IsBitSet c.new-set.result) c.iter-state-items.ensures.same c.new-set.ensures.none, λ q s. absurd (c.new-set.ensures.none q s))

pub apply-requires-clause-state : goal.apply-requires-clause-state
apply-requires-clause-state c = c.requires.known c.in-Some.state (from_first c.loop-state.invariant.0 c.in-Some.ensures.steps)

pub loop-state-preserved : goal.loop-state-preserved
loop-state-preserved c =
    let next : c.apply.result.1.0 ≡ (transition c.args.table.now c.args.operation.0 c.in-Some.state).1 = ap (λ (p : ℕ × ℕ). p.1) c.apply.ensures.value in (
      from_more (λ i q. (transition c.args.table.now c.args.operation.0 i).1 ≡ q) (IsBitSet c.args.from) c.loop-state.state-iterator c.next.new.self c.in-Some.state
          (IsBitSet c.loop-state.set) (IsBitSet c.insert.new.self)
          c.in-Some.ensures.steps c.loop-state.invariant.0
          (λ q. (
            λ s. elim ((c.insert.ensures q).0 s) [ inl a ↦ inl a | inr e ↦ inr (sym (e ∙ next)) ],
            λ h. (c.insert.ensures q).1 (elim h [ inl a ↦ inl a | inr e ↦ inr (sym (next ∙ e)) ]),
          )),
      λ q s. elim ((c.insert.ensures q).0 s) [ inl a ↦ c.loop-state.invariant.1 q a | inr e ↦ subst (λ (x : ℕ). x < length c.args.table.now.states) (sym e) c.apply.ensures.next ],
    )

pub returns : goal.returns
returns c = record {
  same = from_all (λ i q. (transition c.args.table.now c.args.operation.0 i).1 ≡ q) (IsBitSet c.args.from) c.loop-state.state-iterator
      (IsBitSet c.loop-state.set) c.in-None.ensures.steps.0 c.loop-state.invariant.0;
  known = c.loop-state.invariant.1;
}
