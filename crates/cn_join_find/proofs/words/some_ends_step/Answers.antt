use Rattle.std.proofs.Common.{ℕ, inl, inr, arith, subst, sym}
use Rattle.cn_outcomes.proofs.Packing.{below_or_last}
use Rattle.cn_stocks.proofs.LastingLemmas.Closing.{not_some}
use Rattle.cn_join_find.specs.Steps.{EndsBehind}
use Rattle.cn_join_find.proofs.words.some_ends_step.Goals as goal

pub loop-operation-preserved : goal.loop-operation-preserved
loop-operation-preserved c items at o l = elim (below_or_last o c.loop-operation.operation l) [
  | inl u ↦ c.loop-operation.invariant items at o u
  | inr e ↦ subst (λ (x : ℕ). ¬ EndsBehind c.args.cells.now.table.now c.args.start items c.args.goal x) (sym e) (c.ends_step.ensures.none (not_some c.ends_step.result c.in_default.not-Some) items at)
]

pub returns-in-Some-clause-some : goal.returns-in-Some-clause-some
returns-in-Some-clause-some c = (c.loop-operation.operation, omega (arith, c.loop-operation-test.true, c.operations-operation-end.ensures.number), c.in-Some.ensures.some)

pub returns-clause-none : goal.returns-clause-none
returns-clause-none c e items at o l = c.loop-operation.invariant items at o (omega (arith, l, c.loop-operation-test.false, c.operations-operation-end.ensures.number))
