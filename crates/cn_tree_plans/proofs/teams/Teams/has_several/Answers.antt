use Rattle.std.proofs.Common.{arith}
use Rattle.cn_tree_plans.specs.Teams.{teams_of}
use Rattle.cn_tree_plans.proofs.TeamLemmas.{several_bound}
use Rattle.cn_tree_plans.proofs.teams.Teams.has_several.Goals as goal

pub returns : goal.returns
returns c =
    let bound = several_bound (teams_of c.args.self.now) c.requires.below in
    let two = c.requires.here in
    omega arith
