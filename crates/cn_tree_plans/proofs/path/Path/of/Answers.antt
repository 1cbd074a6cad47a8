use Rattle.std.proofs.Common.{arith}
use Rattle.cn_tree_plans.specs.Teams.{teams_of}
use Rattle.cn_tree_plans.proofs.TeamLemmas.{several_bound}
use Rattle.cn_tree_plans.proofs.path.Path.of.Goals as goal

pub push_places-requires-clause-nodes : goal.push_places-requires-clause-nodes
push_places-requires-clause-nodes c =
    let bound = several_bound (teams_of c.args.teams.now) c.requires.several in
    let few = c.requires.few in
    omega arith
