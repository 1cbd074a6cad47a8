use Rattle.std.proofs.Common.{arith, length, subst, ℕ, ◌≡◌}
use Rattle.cn_tree_plans.specs.Made.{AreLists}
use Rattle.cn_tree_plans.proofs.ShownLemmas.{lists_push}
use Rattle.cn_tree_plans.proofs.making.node_judged.Goals as goal

pub returns-in-None : goal.returns-in-None
returns-in-None c = (
  omega arith,
  rw c.in-None.is at c.in_ok-entries.ensures,
  λ j l. (c.loop-k.invariant.each j l).apart,
)

pub loop-k-preserved : goal.loop-k-preserved
loop-k-preserved c =
    rw c.in_ok-push-in-Some.ensures.items
    (lists_push c.args.table.now c.args.meeting.now c.args.sizes.now c.loop-k.k c.loop-k.lists.items c.of.result c.loop-k.invariant
    (rw c.of.ensures (rw c.in-Some.is at c.in_ok-entries.ensures)))

pub returns : goal.returns
returns c =
    let e : c.loop-k.k ≡ length c.args.meeting.now.operations = omega (arith, c.loop-k-test.false, c.loop-k.auto.k-end, c.size-k-end.ensures) in
    rw c.of-2.ensures (subst (λ (n : ℕ). AreLists c.args.table.now c.args.meeting.now c.args.sizes.now n c.loop-k.lists.items) e c.loop-k.invariant)
