use Rattle.std.proofs.Common.{◌≡◌, ◌-◌, ◌∙◌, ℕ, List, ap, arith, length}
use Rattle.std.proofs.lemmas.List.{length-replicate}
use Rattle.cn_check.proofs.StepLemmas.{first_longer}
use Rattle.cn_check.proofs.steps.first_beside.Goals as goal

pub returns-then-a-n-clause-first : goal.returns-then-a-n-clause-first
returns-then-a-n-clause-first c limit some = rw c.zeros.ensures (first_longer limit c.args.n c.args.a.now some c.if-a-n.true)

pub returns-then-a-n-clause-long : goal.returns-then-a-n-clause-long
returns-then-a-n-clause-long c =
    let left : ℕ = c.args.n - length c.args.a.now in
    let long : length c.zeros.result.items ≡ left = ap (λ (xs : List ℕ). length xs) c.zeros.ensures ∙ length-replicate left 0 in
    omega (arith, long, c.if-a-n.true)
