use Rattle.std.proofs.Common.{◌≡◌, ◌⊎◌, Err, ap, inl, inr, refl}
use Rattle.std.proofs.lemmas.Result.{err_from_is_err_and}
use Rattle.cn_table.specs.TypeTable.{TypeTable}
use Rattle.cn_tree_cert.specs.Certificate.{TreeCertificate}
use Rattle.cn_tree_check.specs.Faults.{IsFirstFault}
use Rattle.cn_tree_check.specs.declared.fault.TreeCheckFault.{TreeCheckFault}
use Rattle.cn_tree_check.specs.declared.fault.TreeCheckFault.TheVariants.{OutOfMemory}
use Rattle.cn_io.specs.FaultText.{plain_of}
use Rattle.cn_io.specs.Texts.PlanTrees.{GivesTreeCheck}
use Rattle.cn_io.specs.declared.fault.AppFault.TheVariants.{TreeCheck}
use Rattle.cn_io.proofs.readers.plan_tree.check_tree_certificate.Goals as goal

-- a fault of the check
refused : (t : TypeTable) (c : TreeCertificate) (fault : TreeCheckFault) → (fault ≡ OutOfMemory) ⊎ IsFirstFault t c fault → GivesTreeCheck t c (Err (plain_of (TreeCheck fault)))
refused t c fault (inl none) = inl (ap (λ (f : TreeCheckFault). plain_of (TreeCheck f)) none)
refused t c fault (inr first) = inr (fault, first, refl)

pub returns-in_err-plan-clause-checked : goal.returns-in_err-plan-clause-checked
returns-in_err-plan-clause-checked g c =
    let p = err_from_is_err_and c.from_residual-in_err-plan.result c.from_residual-in_err-plan.ensures.1 in
    let certificate = c.in_ok-certificate.certificate in
    rw (p.1, p.2) (inr (certificate, c.in_ok-certificate.ensures.certificate, refused c.args.table.now certificate c.in_err-plan.field-0.0 c.in_err-plan.ensures.refused))
