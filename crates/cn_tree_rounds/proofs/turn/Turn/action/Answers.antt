use Rattle.cn_tree_rounds.proofs.TeamCounts.{few_teams}
use Rattle.cn_tree_rounds.proofs.turn.Turn.action.Goals as goal

pub register-requires : goal.register-requires
register-requires c = few_teams c.args.plan.now c.tree_plans_are_right.ensures.plan c.args.self.here.node c.judge-team.result c.judge-team.ensures.range
