use Rattle.std.proofs.Common.{ℕ, ◌≡◌, ◌<◌, slice_index_or}
use Rattle.cn_tree_plans.specs.declared.place.Place.{Place}
use Rattle.cn_tree_plans.proofs.plan.TreePlan.team.Given as goal

-- no place so far is at the node
abbrev pub invariant-loop-place : goal.invariant-loop-place
invariant-loop-place l = (k : ℕ) (d : Place) → k < l.place-index
    → (slice_index_or l.place-items k d).node ≡ l.node → ⊥
