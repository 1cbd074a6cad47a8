use Rattle.std.proofs.Common.{arith, refl}
use Rattle.cn_tree_plans.proofs.ShownLemmas.{shown_push}
use Rattle.cn_tree_plans.proofs.SizeLemmas.{size_less, size_some, start_next, start_within}
use Rattle.cn_tree_plans.proofs.shown.all_shown.Goals as goal

pub overflow_add-high : goal.overflow_add-high
overflow_add-high c =
    omega (arith, c.loop-size.invariant.low, start_within c.args.sizes.now c.loop-size.size-index c.loop-size-test.true, c.requires.sizes.whole, c.requires.meeting.few)

pub shown_by-requires-clause-team : goal.shown_by-requires-clause-team
shown_by-requires-clause-team c = (
  omega (arith, size_some c.args.sizes.now c.loop-size.size-index c.requires.sizes.inhabited c.loop-size-test.true),
  omega (arith, c.loop-size.invariant.low, start_within c.args.sizes.now c.loop-size.size-index c.loop-size-test.true, c.requires.sizes.whole),
)

pub shown_by-requires-clause-others : goal.shown_by-requires-clause-others
shown_by-requires-clause-others c =
    omega (arith, size_less c.args.sizes.now c.loop-size.size-index c.requires.sizes.inhabited c.loop-size-test.true, c.requires.sizes.whole, c.requires.sizes.several)

pub loop-size-preserved : goal.loop-size-preserved
loop-size-preserved c = record {
  shown = rw c.in_ok-push.ensures.items (shown_push _ _ _ _ _ _ _ _ _ c.loop-size.invariant.shown c.loop-size.invariant.low refl c.shown_by.ensures);
  low = omega (arith, c.loop-size.invariant.low, start_next c.args.sizes.now c.loop-size.size-index c.loop-size-test.true);
}
