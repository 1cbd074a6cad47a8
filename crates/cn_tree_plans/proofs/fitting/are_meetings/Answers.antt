use Rattle.std.proofs.Common.{arith}
use Rattle.cn_tree_plans.specs.Teams.{teams_of}
use Rattle.cn_tree_plans.proofs.TeamLemmas.{several_bound, within}
use Rattle.cn_tree_plans.proofs.fitting.are_meetings.Goals as goal

pub nodes_below-requires : goal.nodes_below-requires
nodes_below-requires c = omega (arith, several_bound (teams_of c.args.teams.now) c.requires.proper.below, c.requires.few)

pub overflow_add-node-end : goal.overflow_add-node-end
overflow_add-node-end c = omega (arith, several_bound (teams_of c.args.teams.now) c.requires.proper.below, c.requires.few)

pub members-requires : goal.members-requires
members-requires c = rw c.at.ensures (omega (arith, within (teams_of c.args.teams.now) c.loop-node.node, c.requires.few))
