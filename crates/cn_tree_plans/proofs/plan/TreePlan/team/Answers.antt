use Rattle.std.proofs.Common.{arith}
use Rattle.cn_tree_plans.proofs.PlanLemmas.{on_path}
use Rattle.cn_trees.proofs.Places.{known}
use Rattle.cn_tree_plans.proofs.plan.TreePlan.team.Goals as goal

pub path-place-items-requires : goal.path-place-items-requires
path-place-items-requires c = known c.args.self.now.teams c.args.node c.args.process c.requires

pub unreachable-requires : goal.unreachable-requires
unreachable-requires c =
    on_path c.nodes_are_trees.ensures.processes c.nodes_are_trees.ensures.teams
    c.args.self.now.teams c.args.process c.path-place-items.result.now
    (known c.args.self.now.teams c.args.node c.args.process c.requires) c.path-place-items.ensures.places
    c.args.node (record { node = 0; team = 0 }) c.requires
    (λ k l. c.loop-place.invariant k (record { node = 0; team = 0 }) (omega arith))
