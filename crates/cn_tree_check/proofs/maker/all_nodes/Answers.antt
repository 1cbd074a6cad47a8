use Rattle.std.proofs.Common.{◌+◌, ◌<◌, [], ap, arith, map, sym, ◌∙◌}
use Rattle.std.proofs.lemmas.List.{take_all}
use Rattle.cn_trees.specs.Tree.{nodes_in}
use Rattle.cn_tree_cert.specs.Certificate.{TreeNode}
use Rattle.cn_tree_plans.specs.Plan.{no_meeting}
use Rattle.cn_tree_check.proofs.MakerLemmas.{count_all, one_more, sizes_at}
use Rattle.cn_tree_check.specs.Right.{meeting_of}
use Rattle.cn_tree_check.specs.Sizes.{all_sizes, teams_at}
use Rattle.cn_tree_check.proofs.maker.all_nodes.Goals as goal

pub loop-node-preserved : goal.loop-node-preserved
loop-node-preserved c =
    let s = c.args.plan.now.teams in
    let k = c.loop-node.node in
    let inside : k < 1 + nodes_in s = omega (arith, c.loop-node-test.true, c.nodes-node-end.ensures.number) in
    let count = c.tree_plans_are_right.ensures.plan.fits.count in
    record {
      meetings = ap (map meeting_of) c.in_ok-push.ensures.items
          ∙ one_more meeting_of c.loop-node.nodes.items c.args.plan.now.meetings c.in_ok-here.here no_meeting k (omega (arith, inside, count)) c.loop-node.invariant.meetings c.in_ok-here.ensures.meeting;
      teams = ap teams_at c.in_ok-push.ensures.items
          ∙ one_more (λ (n : TreeNode). n.teams) c.loop-node.nodes.items (all_sizes s) c.in_ok-here.here [] k (omega (arith, inside, count_all s)) c.loop-node.invariant.teams
          (c.in_ok-here.ensures.teams ∙ sym (sizes_at s k inside));
    }

pub returns-clause-meetings : goal.returns-clause-meetings
returns-clause-meetings c =
    c.loop-node.invariant.meetings ∙ take_all c.loop-node.node c.args.plan.now.meetings
    (omega (arith, c.loop-node-test.false, c.nodes-node-end.ensures.number, c.tree_plans_are_right.ensures.plan.fits.count))

pub returns-clause-teams : goal.returns-clause-teams
returns-clause-teams c =
    c.loop-node.invariant.teams ∙ take_all c.loop-node.node (all_sizes c.args.plan.now.teams)
    (omega (arith, c.loop-node-test.false, c.nodes-node-end.ensures.number, count_all c.args.plan.now.teams))
