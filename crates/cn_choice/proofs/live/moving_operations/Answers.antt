use Rattle.std.proofs.Common.{◌≡◌, ◌∙◌, ℕ, inl, inr, ap, arith, length-set, subst, sym}
use Rattle.std.specs.Prelude.{not}
use Rattle.std.proofs.Common.{nat_eq, get_or, false, set}
use Rattle.std.proofs.lemmas.Bool.{cases_order}
use Rattle.std.proofs.lemmas.List.{get_or-set_other, get_or-set_same}
use Rattle.cn_table.specs.TypeTable.{transition}
use Rattle.cn_choice.proofs.live.moving_operations.Goals as goal

pub loop-operation-preserved : goal.loop-operation-preserved
loop-operation-preserved c = record {
  long = length-set c.loop-operation.moving c.loop-operation.operation c.ne.result ∙ c.loop-operation.invariant.long;
  marked = λ operation l. elim (cases_order operation c.loop-operation.operation) [
    | inl e ↦ here operation e
    | inr o ↦ elim o [
      | inl less ↦ get_or-set_other c.loop-operation.moving c.loop-operation.operation operation c.ne.result false (λ e. absurd (omega (arith, e, less)))
          ∙ c.loop-operation.invariant.marked operation less
      | inr more ↦ absurd (omega (arith, l, more))
    ]
  ];
}
  where
    o : ℕ
    o = c.loop-operation.operation

    here : (operation : ℕ) → operation ≡ o
        → get_or (set c.loop-operation.moving o c.ne.result) operation false ≡ not (nat_eq (transition c.args.table.now operation c.args.state.0).1 c.args.state.0)
    here operation e =
        subst (λ (k : ℕ). get_or (set c.loop-operation.moving o c.ne.result) k false ≡ not (nat_eq (transition c.args.table.now k c.args.state.0).1 c.args.state.0)) (sym e)
        (get_or-set_same c.loop-operation.moving o c.ne.result false (omega (arith, c.loop-operation.invariant.long, c.loop-operation-test.true, c.operations-operation-end.ensures.range.1))
        ∙ (c.ne.ensures ∙ ap (λ (k : ℕ). not (nat_eq k c.args.state.0)) (ap (λ (p : ℕ × ℕ). p.1) c.apply.ensures.value)))
