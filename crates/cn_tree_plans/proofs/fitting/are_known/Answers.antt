use Rattle.std.proofs.Common.{ℕ, ◌≡◌, ◌<◌, arith, inl, inr, map, slice_index, subst, sym, true≢false}
use Rattle.std.proofs.lemmas.Bool.{cases_lt}
use Rattle.cn_table.specs.declared.elements.Operation.{Operation}
use Rattle.cn_tree_plans.proofs.Numbers.{operation_at}
use Rattle.cn_tree_plans.proofs.fitting.are_known.Goals as goal

pub returns-then-operation-limit : goal.returns-then-operation-limit
returns-then-operation-limit c =
    let at = operation_at c.args.operations.now c.loop-operation.operation-index c.loop-operation-test.true in (
      λ h. absurd (true≢false (sym h)),
      λ h. absurd (let known = h c.loop-operation.operation-index c.loop-operation-test.true in omega (arith, known, at, c.if-operation-limit.true)),
    )

pub loop-operation-preserved : goal.loop-operation-preserved
loop-operation-preserved c =
    let at = operation_at c.args.operations.now c.loop-operation.operation-index c.loop-operation-test.true in
    λ k l. elim (cases_lt k c.loop-operation.operation-index) [
      | inl lt ↦ c.loop-operation.invariant k lt
      | inr ge ↦ (let e : c.loop-operation.operation-index ≡ k = omega arith in
          subst (λ (j : ℕ). slice_index (map (λ (o : Operation). o.0) c.args.operations.now) j < c.args.limit) e (omega (arith, at, c.if-operation-limit.false)))
    ]
