use Rattle.std.proofs.Common.{map, refl}
use Rattle.cn_tree_plans.specs.Plan.{NodeMeeting}
use Rattle.cn_meetings.specs.Sights.{sight_of}
use Rattle.cn_shortest.proofs.OrderedNodes.{node_of_example}
use Rattle.cn_shortest.proofs.meetings.meeting.Goals as goal

pub returns-clause-node : goal.returns-clause-node
returns-clause-node c t allowed may known is of =
    let choice = c.args.choice.now in
    let m : NodeMeeting = record { start = choice.sizes.example.start.0; sight = choice.sight; operations = map (λ o. o.0) c.in_ok-operations.operations.items } in
    node_of_example t (sight_of choice.sight) c.args.n choice.sizes.counts choice.sizes.example is of allowed may known m refl c.in_ok-operations.ensures refl
