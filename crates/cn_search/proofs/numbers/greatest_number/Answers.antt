use Rattle.std.proofs.Common.{◌∙◌, ap, arith, sym, true≢false}
use Rattle.std.specs.Prelude.{not}
use Rattle.cn_choice.specs.Discerning.{IsDiscerning}
use Rattle.cn_search.proofs.NumberLemmas.{greatest_passed, greatest_refuted}
use Rattle.cn_search.proofs.numbers.greatest_number.Goals as goal

pub returns-then-not-decision-clause-number : goal.returns-then-not-decision-clause-number
returns-then-not-decision-clause-number g c =
    let t = c.args.table.now in
    let limit = c.args.limit in
    greatest_refuted (IsDiscerning t) (c.monotonicity.ensures t) limit c.loop-n.n c.loop-n.number c.loop-n.invariant.tried (omega arith)
    (λ is. true≢false (sym c.if-not-decision.true ∙ ap not (c.in_ok-decision.ensures.decided.1 is)))

pub returns-clause-number : goal.returns-clause-number
returns-clause-number g c =
    let t = c.args.table.now in
    let limit = c.args.limit in
    greatest_passed (IsDiscerning t) (c.monotonicity.ensures t) limit c.loop-n.n c.loop-n.number c.loop-n.invariant.tried (omega (arith, c.requires.some))
    (omega (arith, c.requires.some, c.loop-n-test.false, c.loop-n.auto.n-end))
