use Rattle.std.proofs.Common.{rules, ap, ◌≡◌, ℕ}
use Rattle.cn_proto.specs.Plan.{protocol_of}
use Rattle.cn_plan_text.proofs.promela.push_row.Goals as goal

pub returns : goal.returns
returns c =
    let given : ℕ × ℕ = (protocol_of c.args.plan.now).act c.args.here.role c.args.state.0 in
    let response : c.act.result.0.0 ≡ given.0 = ap (λ (x : ℕ × ℕ). x.0) c.act.ensures.act in
    let next : c.act.result.1.0 ≡ given.1 = ap (λ (x : ℕ × ℕ). x.1) c.act.ensures.act in
    rw (← response, ← next) (search rules)
