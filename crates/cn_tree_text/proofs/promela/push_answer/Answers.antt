use Rattle.std.proofs.Common.{rules, ap, ◌≡◌, ℕ}
use Rattle.cn_table.specs.TypeTable.{transition}
use Rattle.cn_tree_text.proofs.promela.push_answer.Goals as goal

pub returns : goal.returns
returns c =
    let given : ℕ × ℕ = transition c.args.table.now c.args.operation.0 c.args.state.0 in
    let response : c.apply.result.0.0 ≡ given.0 = ap (λ (x : ℕ × ℕ). x.0) c.apply.ensures.value in
    rw (← response) (search rules)
