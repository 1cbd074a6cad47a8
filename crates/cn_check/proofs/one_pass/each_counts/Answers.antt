use Rattle.std.proofs.Common.{◌≡◌, ◌∷◌, ◌∙◌, [], arith, below_more, sym, true}
use Rattle.cn_check.specs.Refutations.{all_count}
use Rattle.cn_check.proofs.RefutationLemmas.{each_counts}
use Rattle.cn_check.proofs.one_pass.each_counts.Goals as goal

pub loop-operation-init : goal.loop-operation-init
loop-operation-init c = λ o l. absurd (omega (arith, l))

pub loop-operation-preserved : goal.loop-operation-preserved
loop-operation-preserved c = below_more (λ o. all_count c.args.version c.args.table.now c.args.state.0 (o ∷ []) ≡ true) c.loop-operation.operation c.loop-operation.invariant
    (sym c.all_count.ensures ∙ c.if-not-all_count.false)

pub returns : goal.returns
returns c = λ yes operations known.
    each_counts c.args.version c.args.table.now c.args.state.0 (λ o l. c.loop-operation.invariant o (omega (arith, l, c.loop-operation-test.false, c.operations-operation-end.ensures.number))) operations
    known
