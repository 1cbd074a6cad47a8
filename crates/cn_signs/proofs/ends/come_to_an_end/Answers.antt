use Rattle.std.proofs.Common.{◌∙◌, sym, true≢false}
use Rattle.cn_signs.proofs.RankedStates.{ends_ranked, none_ranked, ranks_exact}
use Rattle.cn_signs.proofs.Sets.{rest_below}
use Rattle.cn_signs.proofs.ends.come_to_an_end.Goals as goal

pub loop-ends-init : goal.loop-ends-init
loop-ends-init c = record {
  within = λ q h. h;
  exact = c.ends_of-ends.ensures;
  ranked = none_ranked c.args.table.now c.args.operations.now c.args.rows.now c.args.states;
}

pub loop-ends-smaller : goal.loop-ends-smaller
loop-ends-smaller c =
    rest_below c.loop-ends.left c.loop-ends.ends c.difference-left.result (λ q h. ((c.loop-ends.invariant.exact q).0 h).0) c.difference-left.ensures
    (λ none. true≢false (sym (c.is_empty.ensures.none.1 none) ∙ c.loop-ends-test.true))

pub loop-ends-preserved : goal.loop-ends-preserved
loop-ends-preserved c =
    let i = c.loop-ends.invariant in record {
      within = λ q h. i.within q ((c.difference-left.ensures q).0 h).0;
      exact = c.ends_of-ends-in-loop-ends.ensures;
      ranked = ends_ranked c.args.table.now c.args.operations.now c.args.rows.now c.args.states c.loop-ends.left c.loop-ends.ends c.difference-left.result c.requires.closed i.exact c.difference-left.ensures i.ranked;
    }

pub returns : goal.returns
returns c =
    let i = c.loop-ends.invariant in
    let same = ranks_exact c.args.table.now c.args.operations.now c.args.rows.now c.args.states c.loop-ends.left c.loop-ends.ends i.within i.exact (c.is_empty.ensures.none.0 c.loop-ends-test.false) i.ranked in
    (λ h. same.0 (c.is_empty-2.ensures.none.0 h), λ h. c.is_empty-2.ensures.none.1 (same.1 h))
