use Rattle.std.proofs.Common.{Bool, ap, if◌then◌else◌, ℕ, ◌∙◌}
use Rattle.cn_tree_plans.proofs.plan.TreePlan.steps_at.Goals as goal

price : Bool → ℕ
price looks = if looks then 4 else 3

pub returns-then-looks-clause-number : goal.returns-then-looks-clause-number
unfolding price
returns-then-looks-clause-number c = λ p. ap price (c.looks.ensures p ∙ c.if-looks.true)

pub returns-else-looks-clause-number : goal.returns-else-looks-clause-number
unfolding price
returns-else-looks-clause-number c = λ p. ap price (c.looks.ensures p ∙ c.if-looks.false)
