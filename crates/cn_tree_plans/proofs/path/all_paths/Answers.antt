use Rattle.cn_tree_plans.proofs.PlanLemmas.{paths_push}
use Rattle.cn_tree_plans.proofs.path.all_paths.Goals as goal

pub loop-process-preserved : goal.loop-process-preserved
loop-process-preserved c =
    rw c.in_ok-push.ensures.items (paths_push _ _ _ _ c.loop-process.invariant c.in_ok-of.ensures)
