use Rattle.std.proofs.Common.{◌≡◌, ap, arith, inr, refl, sym, ◌∙◌}
use Rattle.cn_tree_cert.specs.Certificate.{TreeCertificate}
use Rattle.cn_tree_check.proofs.RightLemmas.{same_steps}
use Rattle.cn_tree_check.specs.Right.{meetings_of}
use Rattle.cn_tree_check.proofs.verdict.right_plan.Goals as goal

pub returns-then-cost-certificate-clause-fault : goal.returns-then-cost-certificate-clause-fault
returns-then-cost-certificate-clause-fault c =
    let t = c.args.table.now in
    let certificate = c.args.certificate.now in
    let plan = c.in_ok-plan.plan in
    let told = c.in_ok-plan.ensures.plan in
    let name : certificate.type_name ≡ t.name = c.if-not-is_of_type.ensures.0 refl in
    let steps = same_steps t (meetings_of certificate) plan told.0 told.1 in
    inr (
      name,
      (
        plan.teams,
        told.2,
        λ e.
            let same : c.cost.result.steps ≡ c.certificate.inside.steps = c.cost.ensures.steps ∙ (steps ∙ (e ∙ sym (ap (λ (k : TreeCertificate). k.steps) c.certificate.view_is))) in
            absurd (omega (arith, c.if-cost-certificate.true, same)),
      ),
    )
