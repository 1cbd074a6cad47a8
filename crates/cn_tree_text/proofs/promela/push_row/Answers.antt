use Rattle.std.proofs.Common.{rules, ap, ◌≡◌, ℕ}
use Rattle.cn_meetings.specs.Meeting.{act}
use Rattle.cn_tree_plans.specs.Plan.{tree_of}
use Rattle.cn_tree_text.proofs.promela.push_row.Goals as goal

pub returns : goal.returns
returns c =
    let plan = c.args.plan.now in
    let given : ℕ × ℕ = act plan.table ((tree_of plan).meeting c.args.node) c.args.process c.args.state.0 in
    let response : c.act.result.0.0 ≡ given.0 = ap (λ (x : ℕ × ℕ). x.0) c.act.ensures.act in
    let next : c.act.result.1.0 ≡ given.1 = ap (λ (x : ℕ × ℕ). x.1) c.act.ensures.act in
    rw (← response, ← next) (search rules)
