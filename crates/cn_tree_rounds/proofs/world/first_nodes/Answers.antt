use Rattle.std.proofs.Common.{ap}
use Rattle.cn_tree_plans.specs.Plan.{NodeMeeting}
use Rattle.cn_tree_rounds.proofs.Storing.{one_more_node}
use Rattle.cn_tree_rounds.proofs.world.first_nodes.Goals as goal

pub loop-node-preserved : goal.loop-node-preserved
loop-node-preserved c =
    one_more_node c.args.plan.now c.loop-node.node c.loop-node.nodes.items c.push.new.self.items c.new.result c.meeting.inside.start.0 c.meeting-meeting.result.now c.loop-node.invariant c.in_ok-push.ensures.items
    c.new.ensures (ap (λ (m : NodeMeeting). m.start) c.meeting.view_is) c.meeting-meeting.ensures.value
