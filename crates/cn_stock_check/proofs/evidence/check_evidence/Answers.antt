use Rattle.std.proofs.Common.{◌≡◌, inr}
use Rattle.cn_joins.specs.Evidence.{SomeNotices}
use Rattle.cn_stock_check.proofs.Firsts.{left_open, notice}
use Rattle.cn_stock_check.proofs.evidence.check_evidence.Goals as goal
use Rattle.cn_stock_check.proofs.evidence.check_evidence.Goals.{then-n-eq2+in_default-first_noticing, else-n-eq2}

pub returns-in-Some-first_noticing-clause-fault : goal.returns-in-Some-first_noticing-clause-fault
returns-in-Some-first_noticing-clause-fault c =
    inr (notice c.args.table.now c.args.n c.args.joins.now c.in_default.ensures.none c.in-Some-first_noticing.operation c.if-n-eq2.true c.in-Some-first_noticing.ensures.some
    c.in-Some-first_noticing.ensures.first)

pub returns-in-Some-2-clause-fault : goal.returns-in-Some-2-clause-fault
returns-in-Some-2-clause-fault c =
    let quiet : c.args.n ≡ 2 → ¬ SomeNotices c.args.table.now = elim c.if-n-eq2.branch [
      | then-n-eq2+in_default-first_noticing w ↦ (λ e. w.in_default-first_noticing.ensures.none)
      | else-n-eq2 w ↦ (λ e. absurd (w.if-n-eq2.false e))
    ] in
    let left = rw c.in-Some-2.is at c.in_ok-state.ensures.left in
    let first = rw c.in-Some-2.is at c.in_ok-state.ensures.first in
    inr (left_open c.args.table.now c.args.n c.args.joins.now c.in_default.ensures.none c.in-Some-2.state quiet left first)
